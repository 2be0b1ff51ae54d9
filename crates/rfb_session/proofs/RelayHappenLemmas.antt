-- What a relay sends its server for one thing that happens, whatever it is.
use Rattle.std.proofs.Common.{◌≡◌, ◌≢◌, ◌<◌, ◌∙◌, ℕ, zero, suc, Bool, true, false, List, []}
use Rattle.std.proofs.Common.{Some, None, refl, sym, ap, subst, arith, length, drop, append-nil}
use Rattle.rfb_viewer.specs.declared.viewer.Viewer.{Viewer}
use Rattle.rfb_viewer.specs.Model.{StandsFor}
use Rattle.rfb_viewer.specs.Viewer.{ViewerState}
use Rattle.rfb_session.specs.declared.console.Console.{Console}
use Rattle.rfb_session.specs.declared.relay.Relay.{Relay}
use Rattle.rfb_session.specs.declared.relay.gone.Gone.{Gone}
use Rattle.rfb_session.specs.doors.Events.{Event, Received, Ended, Failed, Wrote, Turned}
use Rattle.rfb_session.specs.doors.Tenants.{Happening, Told, Opened, Declined}
use Rattle.rfb_session.specs.console.Console.{Stays, Steps}
use Rattle.rfb_session.specs.console.History.{left_in}
use Rattle.rfb_session.specs.declared.console.desk.Desk.{Desk}
use Rattle.rfb_session.specs.relay.Doors.{KeepsAllButRooms}
use Rattle.rfb_session.specs.relay.History.{Happens, Sends, Passes, Asks, is_muted, HasViewer, HasSent}
use Rattle.rfb_session.specs.relay.Sent.{Sent, passes_of, IsInOrder}
use Rattle.rfb_session.specs.relay.Relay.{RelaySteps, OpensRelay, DeclinesRelay, HearsViewer, TurnsRelay}
use Rattle.rfb_session.specs.relay.Relay.{ForServer, ForViewer, OpensFor, AtDoor as DoesAt, StepsBeside, Then}
use Rattle.rfb_session.specs.relay.Server.{LosesServer}
use Rattle.rfb_session.specs.relay.Setup.{viewing_by}
use Rattle.rfb_session.proofs.ConsoleMoveLemmas.{AtDoor, AtOwner, AtSeat, AtLines, AtOther, at_door, if_other}
use Rattle.rfb_session.proofs.FirstHappeningLemmas.{IsKeptBy}
use Rattle.rfb_session.proofs.RelayComeLemmas.{AfterBytes, Stays as StaysThere, Leaves}
use Rattle.rfb_session.proofs.RelayHearLemmas.{hears_so}
use Rattle.rfb_session.proofs.RelayKeepLemmas.{KeepsSeen, same_seen, opens_seen, declines_seen, ended_seen}
use Rattle.rfb_session.proofs.RelayKeepLemmas.{failed_seen, wrote_seen}
use Rattle.rfb_session.proofs.RelayPassLemmas.{Waits, reported, heard_coming, heard_shown}
use Rattle.rfb_session.proofs.RelayTurnLemmas.{turned_coming, turned_shown}
use Rattle.rfb_session.proofs.RelayOrderLemmas.{Still, still_has, has_sent, not_gone, loses_gone}
use Rattle.rfb_session.proofs.RelayBesideLemmas.{Moves, GoesOn, GoesAway, of_door, quiet, rooms_wait, server_gone}
use Rattle.rfb_session.proofs.RelayBesideLemmas.{beside_moves}

module _ {S : Type 0} where
  -- ---- bytes that came

  viewer_waits : (old mid : Relay S) (sent : List Sent) (k : ℕ) (bytes : List ℕ) (used : ℕ) (viewer : Viewer)
      (shown : Bool) (s : ViewerState) (prefix : List ℕ) → old.console.outcome ≡ None →
      mid.console.outcome ≡ None → (hears : HearsViewer old k bytes used mid) → HasViewer old viewer shown →
      StandsFor (viewing_by old.given.viewer) viewer s prefix →
      IsInOrder old.console.rules.view_only shown s.point s.outstanding sent →
      Waits old sent (passes_of (is_muted old) k hears.event) mid
  viewer_waits old mid sent k bytes used viewer false s prefix going goes hears here stood order =
      heard_coming old mid sent k bytes used going goes hears viewer s prefix here stood order
  viewer_waits old mid sent k bytes used viewer true s prefix going goes hears here stood order =
      heard_shown old mid sent k bytes used going goes hears viewer s prefix here stood order

  module _ (old new : Relay S) (sent : List Sent) (has : HasSent old sent) (going : old.console.outcome ≡ None)
      (goes : new.console.outcome ≡ None) where
    received_moves : (door : ℕ) (part : List ℕ) → RelaySteps old (Received door part) new →
        Moves old sent (Told (Received door part)) new
    received_moves door part steps = by (at_door door)
      where
        mid : Relay S
        mid = steps.does.mid

        on : mid.console.outcome ≡ None
        on = sym steps.does.keeps.console.outcome ∙ goes

        heard : door ≡ 0 → AfterBytes old sent part mid → Moves old sent (Told (Received door part)) new
        heard is (StaysThere more answers waits viewer shown s prefix here stands order) =
            quiet old new sent more (Told (Received door part)) refl (record {
              at_server = λ same. answers;
              at_seat = λ k within same. absurd (omega (arith, is, same));
              at_other = λ far. absurd (omega (arith, is, far));
            })
            (rooms_wait old mid new sent more steps.does.keeps (record {
              waits = waits;
              viewer = viewer;
              shown = shown;
              state = s;
              prefix = prefix;
              here = here;
              stands = stands;
              order = order;
            })) steps.stays steps.given
        heard is (Leaves gone) = GoesAway (server_gone mid new steps.does.keeps.server gone)

        -- at a door that is not known
        unheard : 8 < door → Moves old sent (Told (Received door part)) new
        unheard far =
            let keeps : KeepsAllButRooms old new =
            subst (λ (r : Relay S). KeepsAllButRooms r new) (steps.does.done.3.other far) steps.does.keeps in
            beside_moves old new sent (Told (Received door part)) has refl (record {
              at_server = λ same. absurd (omega (arith, far, same));
              at_seat = λ k within same. absurd (omega (arith, far, within, same));
              at_other = λ beyond. refl;
            }) keeps.server
            (λ a there. same_seen a old.console.desk new.console.desk there keeps.console.desk) steps.stays
            steps.given

        by : AtDoor door → Moves old sent (Told (Received door part)) new
        by (AtOwner is) =
            let done = steps.does.done in
            heard is (hears_so old mid sent part done.0 done.1 has.viewer has.shown has.state has.prefix going on done.2
            has.here has.stands has.order (done.3.server is))
        by (AtSeat k within is) =
            let done = steps.does.done in
            let hears = done.3.seat k within is in
            let more = passes_of (is_muted old) k hears.event in
            quiet old new sent more (Told (Received door part)) refl (record {
              at_server = λ same. absurd (omega (arith, is, same));
              at_seat = λ j below same.
                  subst (λ (n : ℕ). Passes old n part more) (omega (arith, is, same))
                  (reported old mid sent k done.0 done.1 going on hears part done.2);
              at_other = λ far. absurd (omega (arith, is, within, far));
            })
            (rooms_wait old mid new sent more steps.does.keeps
            (viewer_waits old mid sent k done.0 done.1 has.viewer has.shown has.state has.prefix going on hears has.here
            has.stands has.order)) steps.stays steps.given
        by (AtLines is) = unheard (omega (arith, is))
        by (AtOther far) = unheard (omega (arith, far))

    -- ---- ends and failures, and bytes that left

    -- a server that is lost at its door is gone, and beside it nothing is sent
    lost_or_beside : (door : ℕ) (how : Gone) (event : Event) → left_in 0 (Told event) ≡ [] →
        Sends old (Told event) [] new →
        DoesAt door (Then (λ mid. LosesServer old how mid) new) (λ k. StepsBeside old event new)
        (StepsBeside old event new) → ((a : Desk) → door ≢ 0 → old.console.desk ≡ Some a →
        Steps old.console event new.console → KeepsSeen a new.console.desk) → Stays old.console new.console →
        new.given ≡ old.given → Moves old sent (Told event) new
    lost_or_beside door how event none sends does seen stays given =
        of_door does
        (λ is one. GoesAway (server_gone one.mid new one.keeps.server
        (loses_gone old how one.mid (not_gone old has.viewer has.shown has.here) one.done)))
        (λ aside beside. beside_moves old new sent (Told event) has none sends beside.server
        (λ a there. seen a aside there beside.steps) stays given)

    wrote_so : (door : ℕ) (bytes : List ℕ) → RelaySteps old (Wrote door bytes) new →
        Moves old sent (Told (Wrote door bytes)) new
    wrote_so zero bytes steps =
        let one = steps.does.at_server refl in
        let still : Still old new =
        record {
          coming = one.1.coming;
          presence = one.1.presence;
          desk = λ a there. same_seen a old.console.desk new.console.desk there
              (ap (λ (c : Console S). c.desk) one.1.console);
        } in
        GoesOn [] refl (one.1.waits ∙ sym (append-nil (drop (length bytes) old.to_server))) one.0
        (subst (λ (l : List Sent). HasSent new l) (sym (append-nil sent))
        (has_sent old new sent has.viewer has.shown has.state has.prefix steps.given steps.stays.rules
        (still_has old new has.viewer has.shown still has.here) has.stands has.order))
    wrote_so (suc door) bytes steps =
        of_door steps.does (λ is one. absurd (omega (arith, is)))
        (λ aside beside. beside_moves old new sent (Told (Wrote (suc door) bytes)) has
        (if_other 0 (suc door) bytes (λ same. aside (sym same))) refl beside.server
        (λ a there. wrote_seen old.console a (suc door) bytes new.console aside there beside.steps) steps.stays
        steps.given)

    -- ---- a turn

    turned_waits : (now : ℕ) (viewer : Viewer) (shown : Bool) (s : ViewerState) (prefix : List ℕ) →
        TurnsRelay old now new → HasViewer old viewer shown →
        StandsFor (viewing_by old.given.viewer) viewer s prefix →
        IsInOrder old.console.rules.view_only shown s.point s.outstanding sent →
        (more : List Sent) × Asks old more new × Waits old sent more new
    turned_waits now viewer false s prefix turns here stood order =
        let one = turned_coming old now new turns goes sent viewer s prefix here stood order in ([], one.0, one.1)
    turned_waits now viewer true s prefix turns here stood order =
        turned_shown old now new turns goes sent viewer s prefix here going stood order

    turned_so : (now : ℕ) → RelaySteps old (Turned now) new → Moves old sent (Told (Turned now)) new
    turned_so now steps =
        let one = turned_waits now has.viewer has.shown has.state has.prefix steps.does has.here has.stands has.order in
        quiet old new sent one.0 (Told (Turned now)) refl one.1 one.2 steps.stays steps.given

    -- ---- who comes

    opened_so : (door : ℕ) (from : List ℕ) → 0 ≢ door → OpensRelay old door from new →
        Moves old sent (Opened door from) new
    opened_so door from aside opens = by opens.opens
      where
        by : OpensFor old door from new → Moves old sent (Opened door from) new
        by (ForServer due is called) = absurd (aside (sym is))
        by (ForViewer none comes keeps) =
            beside_moves old new sent (Opened door from) has refl refl keeps
            (λ a there. opens_seen old.console a door from new.console there comes) comes.stays opens.given

    declined_so : (from : List ℕ) → DeclinesRelay old from new → Moves old sent (Declined from) new
    declined_so from declines =
        beside_moves old new sent (Declined from) has refl refl declines.server
        (λ a there. declines_seen old.console a from new.console goes there declines.declines.declines)
        declines.declines.stays declines.given

    told_so : (event : Event) → RelaySteps old event new → Moves old sent (Told event) new
    told_so (Received door part) steps = received_moves door part steps
    told_so (Ended door) steps =
        lost_or_beside door _ (Ended door) refl refl steps.does
        (λ a aside there one. ended_seen old.console a door new.console aside going goes there one) steps.stays
        steps.given
    told_so (Failed door) steps =
        lost_or_beside door _ (Failed door) refl refl steps.does
        (λ a aside there one. failed_seen old.console a door new.console aside going goes there one) steps.stays
        steps.given
    told_so (Wrote door bytes) steps = wrote_so door bytes steps
    told_so (Turned now) steps = turned_so now steps

    -- ---- whatever happens

    pub moved_so : (h : Happening) → IsKeptBy 0 h → Happens old h new → Moves old sent h new
    moved_so (Told event) kept happens = told_so event happens
    moved_so (Opened door from) kept happens = opened_so door from kept happens
    moved_so (Declined from) kept happens = declined_so from happens
