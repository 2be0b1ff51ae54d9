-- In which order a relay sends its server what it does, and what makes a history of it.
use Rattle.std.proofs.Common.{◌≡◌, ◌<◌, ◌++◌, ◌∙◌, ℕ, Bool, true, false, List, [], ◌∷◌, Option, Some, None}
use Rattle.std.proofs.Common.{refl, sym, ap, subst, arith, append-nil, append_assoc}
use Rattle.rfb_wire.specs.stream.Sequel.{First, Second}
use Rattle.rfb_codec.specs.UpdateStream.{UpdatePoint}
use Rattle.rfb_hello.specs.ServerHandshake.{ServerPoint}
use Rattle.rfb_viewer.specs.declared.viewer.Viewer.{Viewer}
use Rattle.rfb_viewer.specs.ServerBytes.{ServerAt}
use Rattle.rfb_viewer.specs.Model.{StandsFor}
use Rattle.rfb_viewer.specs.Viewer.{ViewerState}
use Rattle.rfb_session.specs.declared.console.desk.Desk.{Desk}
use Rattle.rfb_session.specs.declared.console.plan.Rules.{Rules}
use Rattle.rfb_session.specs.declared.relay.Relay.{Relay}
use Rattle.rfb_session.specs.declared.relay.gone.Gone.{Gone}
use Rattle.rfb_session.specs.declared.relay.presence.Presence.{Presence}
use Rattle.rfb_session.specs.declared.relay.setup.Given.{Given}
use Rattle.rfb_session.specs.declared.share.event.SeatEvent.{SeatEvent}
use Rattle.rfb_session.specs.declared.share.event.SeatEvent.TheVariants.{Ready, Key, Pointer, CutText}
use Rattle.rfb_session.specs.relay.History.{HasViewer, HasSent, HasGone}
use Rattle.rfb_session.specs.relay.Sent.{Sent, Answer, Ask, Pass, Updated, passes_of, out_after, AreAnswers}
use Rattle.rfb_session.specs.relay.Sent.{AreDoings, IsInOrder}
use Rattle.rfb_session.specs.relay.Presence.{is_gone}
use Rattle.rfb_session.specs.relay.Server.{LosesServer, GoneBefore, GoneNow}
use Rattle.rfb_session.specs.relay.Setup.{viewing_by}
use Rattle.rfb_session.proofs.RelayKeepLemmas.{KeepsSeen}

-- ---- answers and doings

pub answers_more : (xs ys : List Sent) → AreAnswers xs → AreAnswers ys → AreAnswers (xs ++ ys)
answers_more [] ys one two = two
answers_more (Answer bytes ∷ xs) ys one two = answers_more xs ys one two
answers_more (Ask incremental width height ∷ xs) ys one two = absurd one
answers_more (Pass seat event ∷ xs) ys one two = absurd one
answers_more (Updated ∷ xs) ys one two = absurd one

after_more : (out : Bool) (xs ys : List Sent) → out_after out (xs ++ ys) ≡ out_after (out_after out xs) ys
after_more out [] ys = refl
after_more out (Answer bytes ∷ xs) ys = after_more out xs ys
after_more out (Ask incremental width height ∷ xs) ys = after_more true xs ys
after_more out (Pass seat event ∷ xs) ys = after_more out xs ys
after_more out (Updated ∷ xs) ys = after_more false xs ys

pub after_passed : (out muted : Bool) (k : ℕ) (event : Option SeatEvent) → out_after out (passes_of muted k event) ≡ out
after_passed out true k None = refl
after_passed out false k None = refl
after_passed out true k (Some (Ready shared)) = refl
after_passed out false k (Some (Ready shared)) = refl
after_passed out true k (Some (Key down key)) = refl
after_passed out false k (Some (Key down key)) = refl
after_passed out true k (Some (Pointer buttons x y)) = refl
after_passed out false k (Some (Pointer buttons x y)) = refl
after_passed out true k (Some (CutText kept n)) = refl
after_passed out false k (Some (CutText kept n)) = refl

module _ (view_only : Bool) where
  doings_more : (p : UpdatePoint) (out : Bool) (xs ys : List Sent) → AreDoings view_only p out xs →
      AreDoings view_only p (out_after out xs) ys → AreDoings view_only p out (xs ++ ys)
  doings_more p out [] ys one two = two
  doings_more p out (Answer bytes ∷ xs) ys one two = absurd one
  doings_more p out (Ask incremental width height ∷ xs) ys one two =
      (one.0, one.1, one.2, one.3, doings_more p true xs ys one.4 two)
  doings_more p out (Pass seat event ∷ xs) ys one two = (one.0, doings_more p out xs ys one.1 two)
  doings_more p out (Updated ∷ xs) ys one two = doings_more p false xs ys one two

  -- on a screen of the same size
  doings_as : (p q : UpdatePoint) → q.width ≡ p.width → q.height ≡ p.height → (out : Bool) (xs : List Sent) →
      AreDoings view_only p out xs → AreDoings view_only q out xs
  doings_as p q wide high out [] one = one
  doings_as p q wide high out (Answer bytes ∷ xs) one = absurd one
  doings_as p q wide high out (Ask incremental width height ∷ xs) one =
      (one.0, one.1 ∙ sym wide, one.2 ∙ sym high, one.3, doings_as p q wide high true xs one.4)
  doings_as p q wide high out (Pass seat event ∷ xs) one = (one.0, doings_as p q wide high out xs one.1)
  doings_as p q wide high out (Updated ∷ xs) one = doings_as p q wide high false xs one

  pub doings_passed : (p : UpdatePoint) (out muted : Bool) (k : ℕ) (event : Option SeatEvent) → muted ≡ view_only →
      AreDoings view_only p out (passes_of muted k event)
  doings_passed p out true k None is = tt
  doings_passed p out false k None is = tt
  doings_passed p out true k (Some (Ready shared)) is = tt
  doings_passed p out false k (Some (Ready shared)) is = tt
  doings_passed p out true k (Some (Key down key)) is = tt
  doings_passed p out false k (Some (Key down key)) is = (sym is, tt)
  doings_passed p out true k (Some (Pointer buttons x y)) is = tt
  doings_passed p out false k (Some (Pointer buttons x y)) is = (sym is, tt)
  doings_passed p out true k (Some (CutText kept n)) is = tt
  doings_passed p out false k (Some (CutText kept n)) is = (sym is, tt)

  -- ---- what was sent goes on

  -- in the handshake
  pub order_answered : (at to : ServerAt) (point next : ServerPoint) (out now : Bool) (sent more : List Sent) →
      at ≡ First point → to ≡ First next → AreAnswers more → IsInOrder view_only false at out sent →
      IsInOrder view_only false to now (sent ++ more)
  order_answered at to point next out now sent more is is_now answers order =
      subst (λ (x : ServerAt). IsInOrder view_only false x now (sent ++ more)) (sym is_now)
      (answers_more sent more (subst (λ (x : ServerAt). IsInOrder view_only false x out sent) is order) answers)

  -- at its end
  pub order_asked : (at to : ServerAt) (point : ServerPoint) (p : UpdatePoint) (out : Bool) (sent : List Sent)
      (reply : List ℕ) → at ≡ First point → to ≡ Second p → 0 < p.width → 0 < p.height →
      IsInOrder view_only false at out sent →
      IsInOrder view_only false to true (sent ++ Answer reply ∷ Ask false p.width p.height ∷ [])
  order_asked at to point p out sent reply is is_now columns rows order =
      subst
      (λ (x : ServerAt). IsInOrder view_only false x true (sent ++ Answer reply ∷ Ask false p.width p.height ∷ []))
      (sym is_now) (
        sent ++ Answer reply ∷ [],
        answers_more sent (Answer reply ∷ [])
            (subst (λ (x : ServerAt). IsInOrder view_only false x out sent) is order) tt,
        sym (append_assoc sent (Answer reply ∷ []) (Ask false p.width p.height ∷ [])),
        columns,
        rows,
        refl,
      )

  asks_as : (p q : UpdatePoint) → q.width ≡ p.width → q.height ≡ p.height →
      Ask false p.width p.height ≡ Ask false q.width q.height
  asks_as p q wide high = rw (wide, high) refl

  some_as : (n m : ℕ) → m ≡ n → 0 < n → 0 < m
  some_as n m same some = omega (arith, same, some)

  -- before the first update is whole
  pub order_waits : (at to : ServerAt) (p q : UpdatePoint) (out now : Bool) (sent : List Sent) → at ≡ Second p →
      to ≡ Second q → q.width ≡ p.width → q.height ≡ p.height → now ≡ out → IsInOrder view_only false at out sent →
      IsInOrder view_only false to now (sent ++ [])
  order_waits at to p q out now sent is is_now wide high same order =
      let one = subst (λ (x : ServerAt). IsInOrder view_only false x out sent) is order in
      subst (λ (x : ServerAt). IsInOrder view_only false x now (sent ++ [])) (sym is_now) (
        one.0,
        one.1,
        append-nil sent ∙ one.2 ∙ ap (λ (a : Sent). one.0 ++ a ∷ []) (asks_as p q wide high),
        some_as p.width q.width wide one.3,
        some_as p.height q.height high one.4,
        same ∙ one.5,
      )

  -- at its end
  pub order_opens : (at to : ServerAt) (p q : UpdatePoint) (out now : Bool) (sent : List Sent) → at ≡ Second p →
      to ≡ Second q → q.width ≡ p.width → q.height ≡ p.height → now ≡ false → IsInOrder view_only false at out sent →
      IsInOrder view_only true to now (sent ++ Updated ∷ [])
  order_opens at to p q out now sent is is_now wide high none order =
      let one = subst (λ (x : ServerAt). IsInOrder view_only false x out sent) is order in
      subst (λ (x : ServerAt). IsInOrder view_only true x now (sent ++ Updated ∷ [])) (sym is_now) (
        one.0,
        Updated ∷ [],
        one.1,
        tt,
        ap (λ (l : List Sent). l ++ Updated ∷ []) (one.2
            ∙ ap (λ (a : Sent). one.0 ++ a ∷ []) (asks_as p q wide high))
            ∙ append_assoc one.0 (Ask false q.width q.height ∷ []) (Updated ∷ []),
        some_as p.width q.width wide one.3,
        some_as p.height q.height high one.4,
        none,
      )

  -- and after it
  pub order_does : (at to : ServerAt) (p q : UpdatePoint) (out now : Bool) (sent more : List Sent) → at ≡ Second p →
      to ≡ Second q → q.width ≡ p.width → q.height ≡ p.height → AreDoings view_only p out more →
      now ≡ out_after out more → IsInOrder view_only true at out sent →
      IsInOrder view_only true to now (sent ++ more)
  order_does at to p q out now sent more is is_now wide high doings last order =
      let one = subst (λ (x : ServerAt). IsInOrder view_only true x out sent) is order in
      subst (λ (x : ServerAt). IsInOrder view_only true x now (sent ++ more)) (sym is_now) (
        one.0,
        one.1 ++ more,
        one.2,
        doings_as p q wide high true (one.1 ++ more)
            (doings_more p true one.1 more one.3
            (subst (λ (b : Bool). AreDoings view_only p b more) one.7 doings)),
        ap (λ (l : List Sent). l ++ more) (one.4
            ∙ ap (λ (a : Sent). one.0 ++ a ∷ one.1) (asks_as p q wide high))
            ∙ append_assoc one.0 (Ask false q.width q.height ∷ one.1) more,
        some_as p.width q.width wide one.5,
        some_as p.height q.height high one.6,
        last ∙ ap (λ (b : Bool). out_after b more) one.7 ∙ sym (after_more true one.1 more),
      )

-- while its picture is shown its viewer's handshake is done, and its screen has a place
pub record IsPast (at : ServerAt) : Type 0 where
  pub point : UpdatePoint
  pub at_is : at ≡ Second point
  pub columns : 0 < point.width
  pub rows : 0 < point.height

pub shown_past : (view_only : Bool) (at : ServerAt) (out : Bool) (sent : List Sent) →
    IsInOrder view_only true at out sent → IsPast at
shown_past view_only (First point) out sent order = absurd order
shown_past view_only (Second p) out sent order =
    record { point = p; at_is = refl; columns = order.5; rows = order.6 }

module _ {S : Type 0} where
  -- ---- a server that is there

  pub not_gone : (relay : Relay S) (viewer : Viewer) (shown : Bool) → HasViewer relay viewer shown →
      is_gone relay.presence ≡ false
  not_gone relay viewer false here = ap (λ (p : Presence). is_gone p) here.presence
  not_gone relay viewer true here = ap (λ (p : Presence). is_gone p) here.presence

  -- it goes away
  pub loses_gone : (old : Relay S) (how : Gone) (new : Relay S) → is_gone old.presence ≡ false →
      LosesServer old how new → HasGone new
  loses_gone old how new there (GoneBefore gone same) = absurd (let one = there in let two = gone in cc)
  loses_gone old how new there (GoneNow still goes) =
      record { gone = ap (λ (p : Presence). is_gone p) goes.presence; coming = goes.coming; waits = goes.waits }

  -- one that has gone stays so
  pub left_gone : (old : Relay S) (how : Gone) (new : Relay S) → HasGone old → LosesServer old how new → HasGone new
  left_gone old how new gone (GoneBefore before same) = subst (λ (r : Relay S). HasGone r) (sym same) gone
  left_gone old how new gone (GoneNow still goes) = absurd (let one = still in let two = gone.gone in cc)

  -- what it has is as it was, and its picture is of the same viewer
  pub record Still (old new : Relay S) : Type 0 where
    pub coming : new.coming ≡ old.coming
    pub presence : new.presence ≡ old.presence
    pub desk : (a : Desk) → old.console.desk ≡ Some a → KeepsSeen a new.console.desk

  pub still_has : (old new : Relay S) (viewer : Viewer) (shown : Bool) → Still old new →
      HasViewer old viewer shown → HasViewer new viewer shown
  still_has old new viewer false still here =
      record { presence = still.presence ∙ here.presence; coming = still.coming ∙ here.coming }
  still_has old new viewer true still here =
      let one = still.desk here.desk here.desk_is in
      record {
        presence = still.presence ∙ here.presence;
        coming = still.coming ∙ here.coming;
        desk = one.desk;
        desk_is = one.is_there;
        seen = one.viewer ∙ here.seen;
      }

  -- so it has sent these
  pub has_sent : (old new : Relay S) (sent : List Sent) (viewer : Viewer) (shown : Bool) (state : ViewerState)
      (prefix : List ℕ) → new.given ≡ old.given → new.console.rules ≡ old.console.rules →
      HasViewer new viewer shown → StandsFor (viewing_by old.given.viewer) viewer state prefix →
      IsInOrder old.console.rules.view_only shown state.point state.outstanding sent → HasSent new sent
  has_sent old new sent viewer shown state prefix given rules here stands order = record {
    shown = shown;
    viewer = viewer;
    here = here;
    state = state;
    prefix = prefix;
    stands = subst (λ (g : Given). StandsFor (viewing_by g.viewer) viewer state prefix) (sym given) stands;
    order = subst (λ (r : Rules). IsInOrder r.view_only shown state.point state.outstanding sent) (sym rules) order;
  }
