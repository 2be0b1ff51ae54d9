-- Bytes that leave a channel of a link for one of its ends, part by part.
use Rattle.std.proofs.Common.{◌≡◌, ℕ, ◌+◌, ◌-◌, ◌≤◌, min, false, List, length, drop, length-drop, Option, None}
use Rattle.std.proofs.Common.{Some, sym, ap, ◌∙◌, subst, arith}
use Rattle.rfb_server.specs.declared.session.Session.{Session}
use Rattle.rfb_server.specs.Model.{session_fault}
use Rattle.rfb_viewer.specs.declared.viewer.Viewer.{Viewer}
use Rattle.rfb_viewer.specs.Model.{fault_of}
use Rattle.rfb_session.specs.declared.event.Event.{Event}
use Rattle.rfb_session.specs.declared.event.Event.TheVariants.{ToServer, ToViewer}
use Rattle.rfb_session.specs.declared.link.Link.{Link}
use Rattle.rfb_session.specs.declared.told.Told.{Told}
use Rattle.rfb_session.specs.ends.LinkDelivery.{DeliversToServer, DeliversToViewer}
use Rattle.rfb_session.specs.LinkBytes.{ActsOnBytes, ReachesSession, ReachesViewer}
use Rattle.rfb_session.specs.LinkModel.{Arrives, LinkDoes, LosesOn, LosesToServer, LosesToViewer}
use Rattle.rfb_session.specs.LinkModel.{server_fault_of, viewer_fault_of, to_server_on, to_viewer_on}
use Rattle.rfb_session.specs.Told.{TellsAlone}
use Rattle.rfb_session.proofs.DeliveringLemmas.{server_more, server_moved, server_none, viewer_more, viewer_moved}
use Rattle.rfb_session.proofs.DeliveringLemmas.{viewer_none}
use Rattle.rfb_session.proofs.LossLemmas.{more_server_loss, more_viewer_loss, no_server_loss, no_viewer_loss}

-- a way to an end: bytes are delivered to it, or lost where it has failed
pub record Way {F : Type 0} (event : ℕ → Event) (queue : Link → List ℕ)
    (Delivers Loses Reaches : Link → ℕ → Link → Type 0) (fault_on : Link → Option F) : Type 0 where
  pub none : (w : Link) → Delivers w 0 w
  pub none_lost : (w : Link) → Loses w 0 w
  pub more : (a b c : Link) (k j : ℕ) → k ≤ length (queue a) → Delivers a k b → Delivers b j c →
      Delivers a (k + j) c
  pub more_lost : (a b c : Link) (k j : ℕ) → Loses a k b → Loses b j c → Loses a (k + j) c
  pub stays : (a b : Link) (k : ℕ) → Loses a k b → fault_on b ≡ fault_on a
  pub does : (old new : Link) (count k : ℕ) (told : Told) → k ≡ min (length (queue old)) count →
      Delivers old k new → told.moved ≡ k → told.refused ≡ None → told.composed ≡ false →
      LinkDoes old (event count) told new
  pub acts : (old new : Link) (count : ℕ) (told : Told) →
      (told.moved ≡ min (length (queue old)) count) × Reaches old told.moved new →
      ActsOnBytes old (event count) told new
  pub lost : (old new : Link) (count : ℕ) (told : Told) →
      ((fault : F) → fault_on old ≡ Some fault →
      (told.moved ≡ min (length (queue old)) count) × Loses old told.moved new) →
      LosesOn old (event count) told new
  pub alone : (count : ℕ) (told : Told) → (told.refused ≡ None) × (told.composed ≡ false) →
      TellsAlone (event count) told

-- of `count` bytes that are to leave, `left` have not
pub record Leaves {F : Type 0} (queue : Link → List ℕ) (Delivers Loses : Link → ℕ → Link → Type 0)
    (fault_on : Link → Option F) (first : Link) (count left : ℕ) (now : Link) : Type 0 where
  pub within : left ≤ length (queue now)
  pub some : left ≤ count
  pub before : count ≤ length (queue first)
  pub delivered : Delivers first (count - left) now
  pub lost : (fault : F) → fault_on first ≡ Some fault → Loses first (count - left) now

module _ {F : Type 0} {event : ℕ → Event} {queue : Link → List ℕ}
    {Delivers Loses Reaches : Link → ℕ → Link → Type 0} {fault_on : Link → Option F}
    (way : Way event queue Delivers Loses Reaches fault_on) where
  -- none of them has left
  pub none_gone : (first : Link) (count : ℕ) → count ≤ length (queue first) →
      Leaves queue Delivers Loses fault_on first count count first
  none_gone first count fits =
      let none : 0 ≡ count - count = omega arith in
      record {
        within = fits;
        some = omega arith;
        before = fits;
        delivered = subst (λ (k : ℕ). Delivers first k first) none (way.none first);
        lost = λ fault is. subst (λ (k : ℕ). Loses first k first) none (way.none_lost first);
      }

  -- some more of them leave
  pub more_gone : {first mid new : Link} {count left used : ℕ} →
      Leaves queue Delivers Loses fault_on first count left mid → used ≤ left → queue new ≡ drop used (queue mid) →
      Delivers mid used new → ((fault : F) → fault_on mid ≡ Some fault → Loses mid used new) →
      Leaves queue Delivers Loses fault_on first count (left - used) new
  more_gone {first} {mid} {new} {count} {left} {used} was part gone delivers loses =
      let sum : (count - left) + used ≡ count - (left - used) = omega (arith, was.some, part) in
      record {
        within = omega (
          arith,
          was.within,
          part,
          ap (λ (q : List ℕ). length q) gone,
          length-drop used (queue mid),
        );
        some = omega (arith, was.some);
        before = was.before;
        delivered = subst (λ (k : ℕ). Delivers first k new) sum
            (way.more first mid new (count - left) used (omega (arith, was.before)) was.delivered delivers);
        lost = λ fault is.
            let one = was.lost fault is in
            subst (λ (k : ℕ). Loses first k new) sum
            (way.more_lost first mid new (count - left) used one
            (loses fault (way.stays first mid (count - left) one ∙ is)));
      }

  -- all of them have
  pub all_gone : {first now : Link} {count left : ℕ} →
      Leaves queue Delivers Loses fault_on first count left now → left ≡ 0 →
      Delivers first count now × ((fault : F) → fault_on first ≡ Some fault → Loses first count now)
  all_gone {first} {now} {count} {left} was none =
      let all : count - left ≡ count = omega (arith, none) in (
        subst (λ (k : ℕ). Delivers first k now) all was.delivered,
        λ fault is. subst (λ (k : ℕ). Loses first k now) all (was.lost fault is),
      )

  -- what has left arrives
  pub arrives : {old new : Link} {told : Told} (count k : ℕ) → k ≡ min (length (queue old)) count →
      told.moved ≡ k → told.refused ≡ None → told.composed ≡ false → Reaches old k new → Delivers old k new →
      ((fault : F) → fault_on old ≡ Some fault → Loses old k new) → Arrives old (event count) told new
  arrives {old} {new} {told} count k least many taken none reached delivered loses = record {
    bytes = way.acts old new count told
        (many ∙ least, subst (λ (n : ℕ). Reaches old n new) (sym many) reached);
    does = way.does old new count k told least delivered many taken none;
    lost = way.lost old new count told
        (λ fault is. (many ∙ least, subst (λ (n : ℕ). Loses old n new) (sym many) (loses fault is)));
    taken = taken;
    tells = way.alone count told (taken, none);
  }

-- ---- the ways of a link

-- an end to which bytes are lost stays as it was
session_stays : (a b : Link) (k : ℕ) → LosesToServer a k b → server_fault_of b ≡ server_fault_of a
session_stays a b k one = ap (λ (end : Session). session_fault end) one.beside.session

viewer_stays : (a b : Link) (k : ℕ) → LosesToViewer a k b → viewer_fault_of b ≡ viewer_fault_of a
viewer_stays a b k one = ap (λ (end : Viewer). fault_of end) one.viewer

pub to_session : Way (λ n. ToServer n) to_server_on DeliversToServer LosesToServer ReachesSession server_fault_of
to_session = search (server_none, no_server_loss, server_more, more_server_loss, session_stays, server_moved)

pub to_viewer : Way (λ n. ToViewer n) to_viewer_on DeliversToViewer LosesToViewer ReachesViewer viewer_fault_of
to_viewer = search (viewer_none, no_viewer_loss, viewer_more, more_viewer_loss, viewer_stays, viewer_moved)
