-- A relay whose server goes away forgets what waited for it, also where all ends with that.
use Rattle.std.proofs.Common.{◌≡◌, ◌≢◌, ◌∙◌, ℕ, zero, suc, Bool, true, false, List, Option, Some, None}
use Rattle.std.proofs.Common.{refl, sym, ap, arith}
use Rattle.rfb_viewer.specs.declared.event.ViewerEvent.{ViewerEvent}
use Rattle.rfb_viewer.specs.declared.event.ViewerEvent.TheVariants as Said
use Rattle.rfb_viewer.specs.declared.viewer.Viewer.{Viewer}
use Rattle.rfb_session.specs.declared.console.Outcome.TheVariants.{NoMemory}
use Rattle.rfb_session.specs.declared.relay.Relay.{Relay}
use Rattle.rfb_session.specs.declared.relay.presence.Presence.{Presence}
use Rattle.rfb_session.specs.doors.Events.{Event, Received, Ended, Failed, Wrote, Turned}
use Rattle.rfb_session.specs.doors.Tenants.{Happening, Told, Opened as OpenedDoor, Declined}
use Rattle.rfb_session.specs.relay.History.{Happens, HasGone}
use Rattle.rfb_session.specs.relay.Presence.{is_gone}
use Rattle.rfb_session.specs.relay.Relay.{RelaySteps, OpensFor, ForServer, ForViewer}
use Rattle.rfb_session.specs.relay.Server.{Stands, Begins, Begun, BadSize, NoRoomToAsk, Opens, Opened, OpenedAgain}
use Rattle.rfb_session.specs.relay.Server.{OpenedOther, NoPicture, NoRoomToShow, OpenedAnew, NoRoomForLines}
use Rattle.rfb_session.specs.relay.Server.{Meets, HearsComing, Met, FailedAt, HearsShown, NoneShown, NoViewer, Fed_on}
use Rattle.rfb_session.specs.relay.Server.{FailedOn, NoRoomToTell, HearsServer, Ignored, Comes, Shows}
use Rattle.rfb_session.proofs.ConsoleMoveLemmas.{AtDoor, AtOwner, AtSeat, AtLines, AtOther, at_door}
use Rattle.rfb_session.proofs.RelayBesideLemmas.{of_door, server_gone}
use Rattle.rfb_session.proofs.RelayOrderLemmas.{loses_gone}
use Rattle.rfb_session.proofs.RelayStepLemmas.{planned_gone}

-- its presence is as it was, so it has not gone
still_there : {X : Type 0} (old new : Presence) → new ≡ old → is_gone old ≡ false → is_gone new ≡ true → X
still_there old new same there gone =
    absurd (no (is_gone old) there (sym (ap (λ (p : Presence). is_gone p) same) ∙ gone))
  where
    no : (b : Bool) → b ≡ false → b ≡ true → ⊥
    no b one two = cc

module _ {S : Type 0} where
  -- ---- bytes of the server's

  module _ (old new : Relay S) (there : is_gone old.presence ≡ false) (gone : is_gone new.presence ≡ true)
      (room : new.console.outcome ≢ Some NoMemory) where
    begins_leaves : (now : Viewer) (reply : List ℕ) (width height : ℕ) → Begins old now reply width height new →
        HasGone new
    begins_leaves now reply width height (Begun asked so takes) =
        still_there old.presence new.presence so.presence there gone
    begins_leaves now reply width height (BadSize size mid queues presence keeps loses) =
        loses_gone mid _ new (ap (λ (p : Presence). is_gone p) presence ∙ there) loses
    begins_leaves now reply width height (NoRoomToAsk ran) = absurd (room ran)

    opens_leaves : (now : Viewer) → Opens old now new → HasGone new
    opens_leaves now (Opened desk none is share over presence beside) =
        absurd (let one = ap (λ (p : Presence). is_gone p) presence in let two = gone in cc)
    opens_leaves now (OpenedAgain a m b is shows tells now_is outcome presence beside) =
        absurd (let one = ap (λ (p : Presence). is_gone p) presence in let two = gone in cc)
    opens_leaves now (OpenedOther share made (OpenedAnew a m b is begins tells now_is outcome presence beside)) =
        absurd (let one = ap (λ (p : Presence). is_gone p) presence in let two = gone in cc)
    opens_leaves now (OpenedOther share made (NoRoomForLines ran)) = absurd (room ran)
    opens_leaves now (NoPicture how mid kept loses) =
        loses_gone mid how new (ap (λ (p : Presence). is_gone p) kept.server.presence ∙ there) loses
    opens_leaves now (NoRoomToShow ran) = absurd (room ran)

    stands_leaves : (now : Viewer) (bytes : List ℕ) → Stands old now bytes new → HasGone new
    stands_leaves now bytes so = still_there old.presence new.presence so.presence there gone

    meets_leaves : (now : Viewer) (event : Option ViewerEvent) → Meets old now event new → HasGone new
    meets_leaves now None so = stands_leaves now _ so
    meets_leaves now (Some (Said.Reply reply)) so = stands_leaves now _ so
    meets_leaves now (Some (Said.Ready reply w h name n)) so = begins_leaves now reply.items w h so
    meets_leaves now (Some Said.UpdateDone) so = opens_leaves now so
    meets_leaves now (Some Said.Bell) so = stands_leaves now _ so
    meets_leaves now (Some (Said.CutText kept n)) so = stands_leaves now _ so
    meets_leaves now (Some Said.ColourMapSkipped) so = stands_leaves now _ so

    comes_leaves : (was : Viewer) (bytes : List ℕ) (used : ℕ) → HearsComing old was bytes used new → HasGone new
    comes_leaves was bytes used (Met now fed takes is meets named) = meets_leaves now fed.event meets
    comes_leaves was bytes used (FailedAt now fault fails is loses) = loses_gone old _ new there loses

    shows_leaves : (bytes : List ℕ) (used : ℕ) → HearsShown old bytes used new → HasGone new
    shows_leaves bytes used (NoneShown none is same) =
        still_there old.presence new.presence (ap (λ (r : Relay S). r.presence) same) there gone
    shows_leaves bytes used (NoViewer a b is none used_is holds now outcome keeps) =
        still_there old.presence new.presence keeps.presence there gone
    shows_leaves bytes used (Fed_on a m b fed is used_is feeds tells now outcome keeps) =
        still_there old.presence new.presence keeps.presence there gone
    shows_leaves bytes used (FailedOn a m b fault is now fails used_is keeps loses) =
        loses_gone m _ new (ap (λ (p : Presence). is_gone p) keeps.presence ∙ there) loses
    shows_leaves bytes used (NoRoomToTell ran) = absurd (room ran)

  hears_leaves : (old new : Relay S) (bytes : List ℕ) (used : ℕ) → is_gone old.presence ≡ false →
      is_gone new.presence ≡ true → new.console.outcome ≢ Some NoMemory → HearsServer old bytes used new →
      HasGone new
  hears_leaves old new bytes used there gone room (Ignored why is same) =
      still_there old.presence new.presence (ap (λ (r : Relay S). r.presence) same) there gone
  hears_leaves old new bytes used there gone room (Comes was is mid taken hears) =
      comes_leaves mid new (ap (λ (p : Presence). is_gone p) taken.presence ∙ there) gone room was bytes used hears
  hears_leaves old new bytes used there gone room (Shows none mid taken hears) =
      shows_leaves mid new (ap (λ (p : Presence). is_gone p) taken.presence ∙ there) gone room bytes used hears

  -- ---- whatever happens

  received_leaves : (old new : Relay S) (door : ℕ) (part : List ℕ) → is_gone old.presence ≡ false →
      is_gone new.presence ≡ true → new.console.outcome ≢ Some NoMemory → RelaySteps old (Received door part) new →
      HasGone new
  received_leaves old new door part there gone room steps =
      server_gone mid new steps.does.keeps.server (by (at_door door))
    where
      mid : Relay S
      mid = steps.does.mid

      over : is_gone mid.presence ≡ true
      over = sym (ap (λ (p : Presence). is_gone p) steps.does.keeps.server.presence) ∙ gone

      by : AtDoor door → HasGone mid
      by (AtOwner is) =
          hears_leaves old mid steps.does.done.0 steps.does.done.1 there over
          (λ ran. room (steps.does.keeps.console.outcome ∙ ran)) (steps.does.done.3.server is)
      by (AtSeat k within is) =
          still_there old.presence mid.presence (steps.does.done.3.seat k within is).presence there over
      by (AtLines is) =
          still_there old.presence mid.presence
          (ap (λ (r : Relay S). r.presence) (steps.does.done.3.other (omega (arith, is)))) there over
      by (AtOther far) =
          still_there old.presence mid.presence
          (ap (λ (r : Relay S). r.presence) (steps.does.done.3.other (omega (arith, far)))) there over

  told_leaves : (old new : Relay S) (event : Event) → is_gone old.presence ≡ false →
      is_gone new.presence ≡ true → new.console.outcome ≢ Some NoMemory → RelaySteps old event new → HasGone new
  told_leaves old new (Received door part) there gone room steps =
      received_leaves old new door part there gone room steps
  told_leaves old new (Ended door) there gone room steps =
      of_door steps.does
      (λ is one. server_gone one.mid new one.keeps.server (loses_gone old _ one.mid there one.done))
      (λ aside beside. still_there old.presence new.presence beside.server.presence there gone)
  told_leaves old new (Failed door) there gone room steps =
      of_door steps.does
      (λ is one. server_gone one.mid new one.keeps.server (loses_gone old _ one.mid there one.done))
      (λ aside beside. still_there old.presence new.presence beside.server.presence there gone)
  told_leaves old new (Wrote zero bytes) there gone room steps =
      still_there old.presence new.presence (steps.does.at_server refl).1.presence there gone
  told_leaves old new (Wrote (suc door) bytes) there gone room steps =
      of_door steps.does (λ is one. absurd (omega (arith, is)))
      (λ aside beside. still_there old.presence new.presence beside.server.presence there gone)
  told_leaves old new (Turned now) there gone room steps =
      absurd (let one = ap (λ (p : Presence). is_gone p) steps.does.presence
      ∙ planned_gone new.console.rules.retry new.console.outcome now old.presence ∙ there in let two = gone in cc)

  open_leaves : (old new : Relay S) (door : ℕ) (from : List ℕ) → is_gone old.presence ≡ false →
      is_gone new.presence ≡ true → OpensFor old door from new → HasGone new
  open_leaves old new door from there gone (ForServer due is called) =
      absurd (let one = ap (λ (p : Presence). is_gone p) called.presence in let two = gone in cc)
  open_leaves old new door from there gone (ForViewer none comes keeps) =
      still_there old.presence new.presence keeps.presence there gone

  pub leaves : (old new : Relay S) (happening : Happening) → is_gone old.presence ≡ false →
      Happens old happening new → is_gone new.presence ≡ true → new.console.outcome ≢ Some NoMemory → HasGone new
  leaves old new (Told event) there happens gone room = told_leaves old new event there gone room happens
  leaves old new (OpenedDoor door from) there happens gone room =
      open_leaves old new door from there gone happens.opens
  leaves old new (Declined from) there happens gone room =
      still_there old.presence new.presence happens.server.presence there gone
