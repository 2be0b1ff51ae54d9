-- What happens at the doors of a relay, and who comes.
use Rattle.std.specs.Prelude.{◌≡◌, ◌≢◌, ◌<◌, ◌⊎◌, ℕ, zero, suc, ◌+◌, ◌-◌, Bool, true, false}
use Rattle.std.specs.Prelude.{nat_eq}
use Rattle.std.specs.Prelude.{◌&&◌, ◌||◌, not}
use Rattle.std.specs.Prelude.{List, [], Option, Some, None}
use Rattle.std.specs.Prelude.{length, take, is_some}
use Rattle.rfb_viewer.specs.declared.viewer.Viewer.{Viewer}
use Rattle.rfb_viewer.specs.Model.{StandsFor}
use Rattle.rfb_viewer.specs.Viewer.{first_viewer}
use Rattle.rfb_wire.specs.stream.FaultPlace.{counted_on}
use Rattle.rfb_session.specs.declared.console.Console.{Console}
use Rattle.rfb_session.specs.declared.relay.Relay.{Relay}
use Rattle.rfb_session.specs.declared.relay.gone.Gone.TheVariants.{Closed, Device}
use Rattle.rfb_session.specs.declared.relay.presence.Presence.TheVariants.{Coming}
use Rattle.rfb_session.specs.declared.share.event.SeatEvent.{SeatEvent}
use Rattle.rfb_session.specs.doors.Events.{Event, Received, Ended, Failed, Wrote, Turned}
use Rattle.rfb_session.specs.console.Console.{HearsBytes, KeepsSide, KeepsButRooms}
use Rattle.rfb_session.specs.console.Console.{RunsOut, Stays, Steps, TurnEnds, TurnsDesk}
use Rattle.rfb_session.specs.console.Console.{OpensAs, DeclinesAs, has_ended, waiting_at}
use Rattle.rfb_session.specs.console.Time.{IsBy, waits_for}
use Rattle.rfb_session.specs.declared.console.desk.Desk.{Desk}
use Rattle.rfb_session.specs.relay.Calls.{passed, Passes, Asks}
use Rattle.rfb_session.specs.relay.Presence.{is_shown, is_called}
use Rattle.rfb_session.specs.relay.Setup.{viewing_by}
use Rattle.rfb_session.specs.relay.Doors.{Arrives, KeepsAllButRooms, KeepsButDesk, KeepsServer, OpensDoors, passed_at}
use Rattle.rfb_session.specs.relay.Doors.{room_of_server, space_at_door}
use Rattle.rfb_session.specs.relay.Server.{HearsServer, LosesServer, WakesFor, planned_for}

-- what happens at the server's door, or at a seat's, or at another
pub record AtDoor (door : ℕ) (server : Type 0) (seat : ℕ → Type 0) (other : Type 0) : Type 0 where
  pub at_server : door ≡ 0 → server
  pub at_seat : (k : ℕ) → k < 8 → door ≡ k + 1 → seat k
  pub at_other : 8 < door → other

module _ {S : Type 0} where
  -- what a viewer did is reported, as at a console, and passed on to the server
  pub record HearsViewer (old : Relay S) (k : ℕ) (bytes : List ℕ) (used : ℕ) (new : Relay S) : Type 0 where
    pub event : Option SeatEvent
    pub mid : Console S
    pub hears : HearsBytes old.console k bytes used event mid
    pub ends : RunsOut old.console.outcome mid.outcome
    pub ended : (old.console.outcome ≢ None) ⊎ (old.console.desk ≡ None) → event ≡ None
    pub side : KeepsSide old.console mid
    pub passes : Passes (passed (old.console.rules.view_only || not (is_shown old.presence)) event) mid.desk
        new.console.desk old.to_server new.to_server mid.outcome new.console.outcome
    pub counted : passed_at new k ≡ counted_on (passed_at old k) (length new.to_server - length old.to_server)
    pub others : (j : ℕ) → nat_eq j k ≡ false → passed_at new j ≡ passed_at old j
    pub coming : new.coming ≡ old.coming
    pub presence : new.presence ≡ old.presence

  -- bytes came at a door, and so many are taken
  pub record HearsAtDoor (old : Relay S) (door : ℕ) (bytes : List ℕ) (used : ℕ) (new : Relay S) : Type 0 where
    pub server : door ≡ 0 → HearsServer old bytes used new
    pub seat : (k : ℕ) → k < 8 → door ≡ k + 1 → HearsViewer old k bytes used new
    pub other : 8 < door → new ≡ old

  -- what happens at a door of the seats' side is a step of the console's, and the server's side is as it was
  pub record StepsBeside (old : Relay S) (event : Event) (new : Relay S) : Type 0 where
    pub steps : Steps old.console event new.console
    pub server : KeepsServer old new

  -- how much is taken at each door aside, it has become so
  pub record Then (does : Relay S → Type 0) (new : Relay S) : Type 0 where
    pub mid : Relay S
    pub done : does mid
    pub keeps : KeepsAllButRooms mid new

  -- a turn: the desk's, and before it and after it the server is asked where somebody waits for an update; or its
  -- call is planned. The next one is wanted no later than the desk wants it
  pub record TurnsRelay (old : Relay S) (now : ℕ) (new : Relay S) : Type 0 where
    pub asked : Relay S
    pub asks_first : Asks (is_shown old.presence) old.console.outcome old.console.desk asked.console.desk
        old.to_server asked.to_server asked.console.outcome
    pub keeps : KeepsButDesk old asked
    pub mid : Console S
    pub turns : TurnsDesk asked.console now mid
    pub ends : TurnEnds asked.console mid
    pub stays : Stays asked.console mid
    pub asks : Asks (is_shown old.presence) mid.outcome mid.desk new.console.desk asked.to_server new.to_server
        new.console.outcome
    pub coming : new.coming ≡ old.coming
    pub presence : new.presence ≡ planned_for new.console.rules.retry new.console.outcome now old.presence
    pub wakes : WakesFor new.console.rules.retry new.console.outcome new.presence new.console.next
    pub sooner : new.console.outcome ≡ None → (desk : Desk) → mid.desk ≡ Some desk → (limit : ℕ) →
        IsBy limit desk.next → IsBy limit new.console.next
    pub rooms : OpensDoors new

  abbrev pub DoesRelay : Relay S → Event → Relay S → Type 0
  DoesRelay old (Received door bytes) new =
      Then (λ mid. (all : List ℕ) × (used : ℕ) × (bytes ≡ take used all) ×
      HearsAtDoor old door all used mid) new
  DoesRelay old (Ended door) new =
      AtDoor door (Then (λ mid. LosesServer old Closed mid) new)
      (λ k. StepsBeside old (Ended door) new) (StepsBeside old (Ended door) new)
  DoesRelay old (Failed door) new =
      AtDoor door (Then (λ mid. LosesServer old Device mid) new)
      (λ k. StepsBeside old (Failed door) new) (StepsBeside old (Failed door) new)
  DoesRelay old (Wrote door bytes) new =
      AtDoor door ((bytes ≡ take (length bytes) old.to_server) × Arrives old (length bytes) new)
      (λ k. StepsBeside old (Wrote door bytes) new) (StepsBeside old (Wrote door bytes) new)
  DoesRelay old (Turned now) new = TurnsRelay old now new

  pub record RelaySteps (old : Relay S) (event : Event) (new : Relay S) : Type 0 where
    pub does : DoesRelay old event new
    pub stays : Stays old.console new.console
    pub given : new.given ≡ old.given

  -- the server is to be called now
  abbrev pub is_due : Relay S → Bool
  is_due relay = not (is_some relay.console.outcome) && is_called relay.presence

  -- bytes wait at some of the first doors of seats
  abbrev pub some_wait : ℕ → Console S → Bool
  some_wait zero console = false
  some_wait (suc n) console = some_wait n console || waits_for (waiting_at console (n + 1))

  -- all has ended as at a console, and what waits for viewers has left, or its time is over
  abbrev pub is_ended : Relay S → Bool
  is_ended relay = has_ended relay.console && (relay.console.is_over || not (some_wait 8 relay.console))

  -- the server that was called comes: its viewer was told nothing, and nothing waits
  pub record IsCalledAgain (old new : Relay S) : Type 0 where
    pub presence : new.presence ≡ Coming
    pub coming : Viewer
    pub coming_is : new.coming ≡ Some coming
    pub stands : StandsFor (viewing_by old.given.viewer) coming first_viewer []
    pub waits : new.to_server ≡ []
    pub passed : (k : ℕ) → k < 8 → passed_at new k ≡ 0
    pub room : space_at_door new 0 ≡ room_of_server new
    pub console : KeepsButRooms old.console new.console

  -- the server that was called has its door; or a viewer has that of a seat, which it has just taken, as at a console
  pub data OpensFor (old : Relay S) (door : ℕ) (from : List ℕ) (new : Relay S) : Type 0 where
    ForServer : is_due old ≡ true → door ≡ 0 → IsCalledAgain old new → OpensFor old door from new
    ForViewer : is_due old ≡ false → OpensAs old.console door from new.console → KeepsServer old new →
        OpensFor old door from new

  pub record OpensRelay (old : Relay S) (door : ℕ) (from : List ℕ) (new : Relay S) : Type 0 where
    pub opens : OpensFor old door from new
    pub given : new.given ≡ old.given

  pub record DeclinesRelay (old : Relay S) (from : List ℕ) (new : Relay S) : Type 0 where
    pub declines : DeclinesAs old.console from new.console
    pub server : KeepsServer old new
    pub given : new.given ≡ old.given
