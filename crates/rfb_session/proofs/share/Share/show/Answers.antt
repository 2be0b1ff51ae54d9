use Rattle.std.proofs.Common.{◌≡◌, ◌≤◌, ◌∙◌, ℕ, sym, ap, subst}
use Rattle.rfb_pixel.specs.declared.colour.Colour.{Colour}
use Rattle.rfb_picture.specs.Grid.{Grid}
use Rattle.rfb_codec.specs.Effect.{IsAlike}
use Rattle.rfb_session.specs.declared.share.mirror.Mirror.{Mirror}
use Rattle.rfb_session.specs.declared.share.screen.Screen.{Screen}
use Rattle.rfb_session.specs.Mirrors.{seen_by}
use Rattle.rfb_session.specs.ShareMoves.{GetsWhole}
use Rattle.rfb_session.specs.ShareScreen.{shown_on}
use Rattle.rfb_session.proofs.FollowLemmas.{AllFollow}
use Rattle.rfb_session.proofs.KinLemmas.{alike_still, still_kept}
use Rattle.rfb_session.proofs.ShareRelayLemmas.{all_alike, all_whole}
use Rattle.rfb_session.proofs.ShareStateLemmas.{sound_seen}
use Rattle.rfb_session.proofs.ShareWorkLemmas.{rest_of_all}
use Rattle.rfb_session.proofs.share.Share.show.Goals as goal

pub invariant_of-self-in-Err-1 : goal.invariant_of-self-in-Err-1
invariant_of-self-in-Err-1 c = assumption (sound_seen c.args.self.now _ c.in-Seen.is)

pub invariant_of-self-then-not-is_alike : goal.invariant_of-self-then-not-is_alike
invariant_of-self-then-not-is_alike c = assumption (sound_seen c.args.self.now _ c.in-Seen.is)

pub tell_whole-requires : goal.tell_whole-requires
tell_whole-requires c =
    let s = c.args.self.now in
    let old = seen_by c.in-Seen.shown.viewer in
    let judged = c.is_alike.ensures.0 c.if-not-is_alike.false in
    let alike : IsAlike c.picture-3.result.now old =
    subst (λ (g : Grid Colour). IsAlike g old) (c.picture.ensures ∙ sym c.picture-3.ensures)
    (subst (λ (g : Grid Colour). IsAlike c.picture.result.now g) c.picture-2.ensures judged) in
    record {
      alike = all_alike old c.picture-3.result.now s.seats
          (subst (λ (x : Screen). AllFollow (λ seat. seat.session) (shown_on x) s.seats) c.in-Seen.is s.follow) alike;
    }

pub invariant_of-self-2 : goal.invariant_of-self-2
invariant_of-self-2 c =
    let s = c.args.self.now in
    let is = c.in-Seen.is in
    let old = seen_by c.in-Seen.shown.viewer in
    let now = c.picture-3.result.now in
    let judged = c.is_alike.ensures.0 c.if-not-is_alike.false in
    let alike : IsAlike now old =
    subst (λ (g : Grid Colour). IsAlike g old) (c.picture.ensures ∙ sym c.picture-3.ensures)
    (subst (λ (g : Grid Colour). IsAlike c.picture.result.now g) c.picture-2.ensures judged) in
    let seen : now ≡ seen_by c.put.new.place.viewer =
    c.picture-3.ensures ∙ ap (λ (m : Mirror). seen_by m.viewer) (sym c.put.ensures) in
    let follow : AllFollow (λ seat. seat.session) old s.seats =
    subst (λ (x : Screen). AllFollow (λ seat. seat.session) (shown_on x) s.seats) is s.follow in
    record {
      eight = c.tell_whole.ensures.size ∙ s.eight;
      columns = subst (λ (g : Grid Colour). g.width ≤ 4096) seen
          (subst (λ (n : ℕ). n ≤ 4096) (sym alike.columns)
          (subst (λ (x : Screen). (shown_on x).width ≤ 4096) is s.columns));
      rows = subst (λ (g : Grid Colour). g.height ≤ 4096) seen
          (subst (λ (n : ℕ). n ≤ 4096) (sym alike.rows)
          (subst (λ (x : Screen). (shown_on x).height ≤ 4096) is s.rows));
      follow = subst (λ (g : Grid Colour). AllFollow (λ seat. seat.session) g c.tell_whole.new.slots) seen
          (all_whole old now s.seats c.tell_whole.new.slots follow c.tell_whole.ensures.told alike);
      rest = rest_of_all (seen_by c.put.new.place.viewer) c.tell_whole.new.slots c.all-self.result
          (c.tell_whole.ensures.size ∙ s.eight) c.all-self.ensures;
      alike = alike_still s.kin s.seats c.tell_whole.new.slots
          (λ k. still_kept (λ a b. GetsWhole now a b) _ _ (λ a b one. one.keeps)
          (c.tell_whole.ensures.told k)) s.alike;
    }
