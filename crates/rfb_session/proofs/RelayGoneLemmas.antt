-- A relay whose server has gone away, over all that happens until that is called again.
use Rattle.std.proofs.Common.{◌≡◌, ◌≢◌, ◌∙◌, ℕ, zero, suc, List, [], ◌∷◌, None}
use Rattle.std.proofs.Common.{refl, sym, ap, subst, arith, length, take, drop}
use Rattle.rfb_session.specs.declared.relay.Relay.{Relay}
use Rattle.rfb_session.specs.declared.relay.presence.Presence.{Presence}
use Rattle.rfb_session.specs.declared.relay.gone.Gone.{Gone}
use Rattle.rfb_session.specs.doors.Events.{Event, Received, Ended, Failed, Wrote, Turned, left}
use Rattle.rfb_session.specs.doors.Tenants.{Happening, Told, Opened, Declined, IsKept, events_in}
use Rattle.rfb_session.specs.console.Console.{Stays}
use Rattle.rfb_session.specs.console.History.{left_in}
use Rattle.rfb_session.specs.relay.History.{Happens, Lasts, HasGone}
use Rattle.rfb_session.specs.relay.Presence.{is_gone}
use Rattle.rfb_session.specs.relay.Relay.{AtDoor as DoesAt, Then, StepsBeside, RelaySteps, OpensFor, ForServer}
use Rattle.rfb_session.specs.relay.Relay.{ForViewer, OpensRelay, DeclinesRelay}
use Rattle.rfb_session.specs.relay.Server.{LosesServer}
use Rattle.rfb_session.proofs.ConsoleMoveLemmas.{AtDoor, AtOwner, AtSeat, AtLines, AtOther, at_door, if_other}
use Rattle.rfb_session.proofs.ConsoleStepLemmas.{went_on}
use Rattle.rfb_session.proofs.FirstHappeningLemmas.{IsKeptBy, kept_first, bytes_first, so_before}
use Rattle.rfb_session.proofs.RelayBesideLemmas.{of_door, server_gone, take_none, drop_none}
use Rattle.rfb_session.proofs.RelayHearLemmas.{hears_gone}
use Rattle.rfb_session.proofs.RelayPassLemmas.{heard_gone}
use Rattle.rfb_session.proofs.RelayTurnLemmas.{turned_gone}
use Rattle.rfb_session.proofs.RelayOrderLemmas.{left_gone}

module _ {S : Type 0} where
  -- ---- the end of all

  open_stays : (old new : Relay S) (door : ℕ) (from : List ℕ) → OpensFor old door from new →
      Stays old.console new.console
  open_stays old new door from (ForServer due is called) = called.console.stays
  open_stays old new door from (ForViewer none comes keeps) = comes.stays

  happens_stays : (h : Happening) (old new : Relay S) → Happens old h new → Stays old.console new.console
  happens_stays (Told event) old new happens = happens.stays
  happens_stays (Opened door from) old new happens = open_stays old new door from happens.opens
  happens_stays (Declined from) old new happens = happens.declines.stays

  pub on_before : (h : Happening) (old new : Relay S) → Happens old h new → new.console.outcome ≡ None →
      old.console.outcome ≡ None
  on_before h old new happens goes = went_on old.console new.console (happens_stays h old new happens) goes

  pub lasts_on : (old new : Relay S) (happenings : List Happening) → Lasts old happenings new →
      new.console.outcome ≡ None → old.console.outcome ≡ None
  lasts_on old new happenings lasts goes =
      so_before RelaySteps OpensRelay DeclinesRelay (λ r. r.console.outcome ≡ None)
      (λ a h b happens on. on_before h a b happens on) old new happenings lasts goes

  -- ---- once it has gone

  -- one that is lost once more is gone, and what happens beside it leaves it so
  at_door_gone : (old new : Relay S) (door : ℕ) (how : Gone) (event : Event) → HasGone old →
      DoesAt door (Then (λ mid. LosesServer old how mid) new) (λ k. StepsBeside old event new)
      (StepsBeside old event new) → HasGone new
  at_door_gone old new door how event gone does =
      of_door does (λ is one. server_gone one.mid new one.keeps.server (left_gone old how one.mid gone one.done))
      (λ aside beside. server_gone old new beside.server gone)

  received_gone : (old new : Relay S) (door : ℕ) (part : List ℕ) → old.console.outcome ≡ None →
      new.console.outcome ≡ None → HasGone old → RelaySteps old (Received door part) new → HasGone new
  received_gone old new door part going goes gone steps =
      server_gone mid new steps.does.keeps.server (by (at_door door))
    where
      mid : Relay S
      mid = steps.does.mid

      on : mid.console.outcome ≡ None
      on = sym steps.does.keeps.console.outcome ∙ goes

      by : AtDoor door → HasGone mid
      by (AtOwner is) =
          hears_gone old mid steps.does.done.0 steps.does.done.1 on gone (steps.does.done.3.server is)
      by (AtSeat k within is) =
          heard_gone old mid [] k steps.does.done.0 steps.does.done.1 going on (steps.does.done.3.seat k within is) gone
      by (AtLines is) =
          subst (λ (r : Relay S). HasGone r) (sym (steps.does.done.3.other (omega (arith, is)))) gone
      by (AtOther far) =
          subst (λ (r : Relay S). HasGone r) (sym (steps.does.done.3.other (omega (arith, far)))) gone

  told_gone : (old new : Relay S) (event : Event) → old.console.outcome ≡ None → new.console.outcome ≡ None →
      HasGone old → RelaySteps old event new → HasGone new × (left_in 0 (Told event) ≡ [])
  told_gone old new (Received door part) going goes gone steps =
      (received_gone old new door part going goes gone steps, refl)
  told_gone old new (Ended door) going goes gone steps =
      (at_door_gone old new door _ (Ended door) gone steps.does, refl)
  told_gone old new (Failed door) going goes gone steps =
      (at_door_gone old new door _ (Failed door) gone steps.does, refl)
  told_gone old new (Wrote zero bytes) going goes gone steps =
      let one = steps.does.at_server refl in (
        record {
          gone = ap (λ (p : Presence). is_gone p) one.1.presence ∙ gone.gone;
          coming = one.1.coming ∙ gone.coming;
          waits = one.1.waits ∙ ap (λ (l : List ℕ). drop (length bytes) l) gone.waits ∙ drop_none (length bytes);
        },
        one.0 ∙ ap (λ (l : List ℕ). take (length bytes) l) gone.waits ∙ take_none (length bytes),
      )
  told_gone old new (Wrote (suc door) bytes) going goes gone steps = (
    of_door steps.does (λ is one. absurd (omega (arith, is)))
        (λ aside beside. server_gone old new beside.server gone),
    if_other 0 (suc door) bytes (λ same. omega (arith, same)),
  )
  told_gone old new (Turned now) going goes gone steps =
      (turned_gone old now new steps.does goes gone, refl)

  opened_gone : (old new : Relay S) (door : ℕ) (from : List ℕ) → 0 ≢ door → HasGone old → OpensFor old door from new →
      HasGone new
  opened_gone old new door from aside gone (ForServer due is called) = absurd (aside (sym is))
  opened_gone old new door from aside gone (ForViewer none comes keeps) = server_gone old new keeps gone

  happens_gone : (old new : Relay S) (h : Happening) → old.console.outcome ≡ None →
      new.console.outcome ≡ None → IsKeptBy 0 h → HasGone old → Happens old h new →
      HasGone new × (left_in 0 h ≡ [])
  happens_gone old new (Told event) going goes kept gone happens = told_gone old new event going goes gone happens
  happens_gone old new (Opened door from) going goes kept gone happens =
      (opened_gone old new door from kept gone happens.opens, refl)
  happens_gone old new (Declined from) going goes kept gone happens =
      (server_gone old new happens.server gone, refl)

  pub stays_gone : (old new : Relay S) (happenings : List Happening) → HasGone old → IsKept 0 happenings →
      new.console.outcome ≡ None → Lasts old happenings new →
      HasGone new × (left 0 (events_in happenings) ≡ [])
  stays_gone old new [] gone kept goes lasts = (subst (λ (r : Relay S). HasGone r) (sym lasts) gone, refl)
  stays_gone old new (h ∷ more) gone kept goes one =
      let keeps = kept_first 0 h more kept in
      let on = lasts_on one.0 new more one.2 goes in
      let next = happens_gone old one.0 h (on_before h old one.0 one.1 on) on keeps.0 gone one.1 in
      let rest = stays_gone one.0 new more next.0 keeps.1 goes one.2 in
      (rest.0, rw ((bytes_first 0 h more).1, next.1, rest.1) refl)
