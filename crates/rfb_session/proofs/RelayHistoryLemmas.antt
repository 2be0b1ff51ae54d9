-- What goes from a relay to its server, over all that happens.
use Rattle.std.proofs.Common.{◌≡◌, ◌++◌, ◌∙◌, ℕ, true, false, List, [], ◌∷◌, Some, None}
use Rattle.std.proofs.Common.{sym, ap, subst, arith, length, take, drop}
use Rattle.std.proofs.Common.{append-nil, append_assoc, take-append-drop}
use Rattle.rfb_viewer.specs.declared.setup.ViewerSetup.{ViewerSetup}
use Rattle.rfb_viewer.specs.declared.viewer.Viewer.{Viewer}
use Rattle.rfb_viewer.specs.Model.{StandsFor}
use Rattle.rfb_viewer.specs.Viewer.{first_viewer}
use Rattle.rfb_session.specs.declared.relay.Relay.{Relay}
use Rattle.rfb_session.specs.declared.relay.setup.Given.{Given}
use Rattle.rfb_session.specs.declared.relay.setup.RelaySetup.{RelaySetup}
use Rattle.rfb_session.specs.declared.relay.presence.Presence.TheVariants.{Coming}
use Rattle.rfb_session.specs.doors.Events.{left}
use Rattle.rfb_session.specs.doors.Tenants.{Happening, IsKept, events_in}
use Rattle.rfb_session.specs.console.History.{left_in}
use Rattle.rfb_session.specs.relay.History.{Lasts, HasSent, HasGone, SendsEach, SendsAll}
use Rattle.rfb_session.specs.relay.Sent.{Sent, all_bytes, all_sent}
use Rattle.rfb_session.specs.relay.Presence.{is_gone}
use Rattle.rfb_session.specs.relay.Relay.{OpensRelay, OpensFor, ForServer, ForViewer, IsCalledAgain}
use Rattle.rfb_session.specs.relay.Server.{IsFreshRelay}
use Rattle.rfb_session.specs.relay.Setup.{viewing_by}
use Rattle.rfb_session.proofs.FirstHappeningLemmas.{IsKeptBy, kept_first, bytes_first}
use Rattle.rfb_session.proofs.RelayBesideLemmas.{Moves, GoesOn, GoesAway}
use Rattle.rfb_session.proofs.RelayHappenLemmas.{moved_so}
use Rattle.rfb_session.proofs.RelayOrderLemmas.{not_gone}
use Rattle.rfb_session.proofs.RelayGoneLemmas.{on_before, lasts_on, stays_gone}
use Rattle.rfb_session.proofs.RelaySendLemmas.{bytes_join}

module _ {S : Type 0} where
  -- ---- where it begins

  -- a server that comes was sent nothing
  none_sent : (relay : Relay S) (viewer : Viewer) → relay.presence ≡ Coming → relay.coming ≡ Some viewer →
      StandsFor (viewing_by relay.given.viewer) viewer first_viewer [] → HasSent relay []
  none_sent relay viewer presence coming stands = record {
    shown = false;
    viewer = viewer;
    here = record { presence = presence; coming = coming };
    state = first_viewer;
    prefix = [];
    stands = stands;
    order = tt;
  }

  pub fresh_sent : (setup : RelaySetup) (relay : Relay S) → IsFreshRelay setup relay →
      HasSent relay [] × (relay.to_server ≡ [])
  fresh_sent setup relay fresh = (
    none_sent relay fresh.coming fresh.presence fresh.coming_is
        (subst (λ (v : ViewerSetup). StandsFor (viewing_by v) fresh.coming first_viewer []) (sym fresh.given)
        fresh.stands),
    fresh.waits,
  )

  called_sent : (old new : Relay S) → new.given ≡ old.given → IsCalledAgain old new →
      HasSent new [] × (new.to_server ≡ [])
  called_sent old new given called = (
    none_sent new called.coming called.presence called.coming_is
        (subst (λ (g : Given). StandsFor (viewing_by g.viewer) called.coming first_viewer []) (sym given)
        called.stands),
    called.waits,
  )

  pub again_sent : (old new : Relay S) (from : List ℕ) → OpensRelay old 0 from new →
      HasSent new [] × (new.to_server ≡ [])
  again_sent old new from opens = by opens.opens
    where
      by : OpensFor old 0 from new → HasSent new [] × (new.to_server ≡ [])
      by (ForServer due is called) = called_sent old new opens.given called
      by (ForViewer none comes keeps) = absurd (omega (arith, comes.door_is))

  -- ---- one thing, and all that come after it

  same_gone : (relay : Relay S) → HasGone relay → is_gone relay.presence ≡ false → ⊥
  same_gone relay gone there = let one = gone.gone in let two = there in cc

  sends_then : (h : Happening) (old mid new : Relay S) (all more : List Happening) (before sent : List Sent) →
      mid.to_server ≡ drop (length (left_in 0 h)) old.to_server ++ all_bytes sent →
      left_in 0 h ≡ take (length (left_in 0 h)) old.to_server → SendsAll mid (before ++ sent) more new →
      left 0 (events_in all) ≡ left_in 0 h ++ left 0 (events_in more) →
      ((later : List (List Sent)) → SendsEach mid more later new → SendsEach old all (sent ∷ later) new) →
      SendsAll old before all new
  sends_then h old mid new all more before sent waits first after parts each = record {
    sent = sent ∷ after.sent;
    each = each after.sent after.each;
    order =
        let gone = left_in 0 h in
        let rest = drop (length gone) old.to_server in
        let later = all_bytes (all_sent after.sent) in
        ap (λ (l : List ℕ). l ++ new.to_server) parts
        ∙ append_assoc gone (left 0 (events_in more)) new.to_server
        ∙ ap (λ (l : List ℕ). gone ++ l) (after.order ∙ ap (λ (l : List ℕ). l ++ later) waits
        ∙ append_assoc rest (all_bytes sent) later)
        ∙ sym (append_assoc gone rest (all_bytes sent ++ later))
        ∙ ap (λ (l : List ℕ). l ++ (all_bytes sent ++ later))
        (ap (λ (l : List ℕ). l ++ rest) first ∙ take-append-drop (length gone) old.to_server)
        ∙ ap (λ (l : List ℕ). old.to_server ++ l) (sym (bytes_join sent (all_sent after.sent)));
    since = subst (λ (l : List Sent). HasSent new l) (append_assoc before sent (all_sent after.sent)) after.since;
  }

  -- ---- all that happens

  pub sends_all : (old new : Relay S) (happenings : List Happening) (before : List Sent) → HasSent old before →
      IsKept 0 happenings → new.console.outcome ≡ None → is_gone new.presence ≡ false →
      Lasts old happenings new → SendsAll old before happenings new
  sends_all old new [] before has kept goes there lasts = record {
    sent = [];
    each = lasts;
    order = ap (λ (r : Relay S). r.to_server) lasts ∙ sym (append-nil old.to_server);
    since = subst (λ (l : List Sent). HasSent new l) (sym (append-nil before))
        (subst (λ (r : Relay S). HasSent r before) (sym lasts) has);
  }
  sends_all old new (h ∷ more) before has kept goes there one =
      by (moved_so old mid before has was on h keeps.0 one.1)
      (λ sent since. sends_all mid new more (before ++ sent) since keeps.1 goes there one.2)
    where
      mid : Relay S
      mid = one.0

      keeps : IsKeptBy 0 h × IsKept 0 more
      keeps = kept_first 0 h more kept

      on : mid.console.outcome ≡ None
      on = lasts_on mid new more one.2 goes

      was : old.console.outcome ≡ None
      was = on_before h old mid one.1 on

      by : Moves old before h mid →
          ((sent : List Sent) → HasSent mid (before ++ sent) → SendsAll mid (before ++ sent) more new) →
          SendsAll old before (h ∷ more) new
      by (GoesOn sent sends waits first since) rest =
          sends_then h old mid new (h ∷ more) more before sent waits first (rest sent since) (bytes_first 0 h more).1
          (λ later each. (mid, one.1, sends, waits, each))
      by (GoesAway gone) rest = absurd (same_gone new (stays_gone mid new more gone keeps.1 goes one.2).0 there)

  -- ---- a server that goes away

  one_forgets : (old mid new : Relay S) (before : List Sent) (h : Happening) (more : List Happening) → IsKept 0 more →
      new.console.outcome ≡ None → Lasts mid more new →
      ((sent : List Sent) → HasSent mid (before ++ sent) → HasGone new) → Moves old before h mid → HasGone new
  one_forgets old mid new before h more kept goes lasts then (GoesOn sent sends waits first since) = then sent since
  one_forgets old mid new before h more kept goes lasts then (GoesAway gone) =
      (stays_gone mid new more gone kept goes lasts).0

  pub forgets : (old new : Relay S) (happenings : List Happening) (before : List Sent) → HasSent old before →
      IsKept 0 happenings → new.console.outcome ≡ None → is_gone new.presence ≡ true → Lasts old happenings new →
      HasGone new
  forgets old new [] before has kept goes gone lasts =
      absurd (let one = not_gone old has.viewer has.shown has.here in
      let two = ap (λ (r : Relay S). is_gone r.presence) (sym lasts) ∙ gone in cc)
  forgets old new (h ∷ more) before has kept goes gone one =
      let keeps = kept_first 0 h more kept in
      let on = lasts_on one.0 new more one.2 goes in
      one_forgets old one.0 new before h more keeps.1 goes one.2
      (λ sent since. forgets one.0 new more (before ++ sent) since keeps.1 goes gone one.2)
      (moved_so old one.0 before has (on_before h old one.0 one.1 on) on h keeps.0 one.1)
