-- A viewer whose picture is shown to others: what it shows, and its state.
use Rattle.std.specs.Prelude.{◌≡◌, ◌≢◌, ◌≤◌, ◌<◌, List, [], ◌++◌, ℕ, length, take}
use Rattle.std.specs.Prelude.{Option, Some, None, false}
use Rattle.std.specs.Prelude.{Result, Err, IfOk, IfErr}
use Rattle.rfb_pixel.specs.declared.colour.Colour.{Colour}
use Rattle.rfb_picture.specs.Grid.{Grid, uniform}
use Rattle.rfb_server.specs.Server.{black}
use Rattle.rfb_wire.specs.ClientMessage.{SpellsClientMessage}
use Rattle.rfb_wire.specs.stream.End.{FedBy}
use Rattle.rfb_wire.specs.stream.FaultPlace.{counted_on}
use Rattle.rfb_hello.specs.declared.fed.Fed.{Fed}
use Rattle.rfb_viewer.specs.declared.call.Call.{Call}
use Rattle.rfb_viewer.specs.declared.fault.AppendFault.{AppendFault}
use Rattle.rfb_viewer.specs.declared.fault.AppendFault.TheVariants.{Refused}
use Rattle.rfb_viewer.specs.declared.fault.CallFault.TheVariants.{NotReady}
use Rattle.rfb_viewer.specs.declared.event.ViewerEvent.{ViewerEvent}
use Rattle.rfb_viewer.specs.declared.fault.ViewerFault.{ViewerFault}
use Rattle.rfb_viewer.specs.declared.viewer.Viewer.{Viewer}
use Rattle.rfb_viewer.specs.Call.{append_refusal_of, called, is_noted, message_bytes, message_of, refusal_for}
use Rattle.rfb_viewer.specs.Call.{refused_by}
use Rattle.rfb_viewer.specs.Counted.{CountsTo}
use Rattle.rfb_viewer.specs.Damage.{damage_of, ended_of, damaging, IsDamaged, KeepsDamage}
use Rattle.rfb_viewer.specs.Moved.{moved_of, moving, HasMoved, KeepsMoved}
use Rattle.rfb_viewer.specs.Model.{StandsFor, KeepsRest, fault_of, picture_of, making_of, taken_of}
use Rattle.rfb_viewer.specs.Told.{seen}
use Rattle.rfb_viewer.specs.Viewer.{Viewing, ViewerState, viewer as viewer_end}
use Rattle.rfb_session.specs.ViewerActs.{EndsBy}

-- without a picture nothing is shown
abbrev pub shown_of : Option (Grid Colour) → Grid Colour
shown_of None = uniform 0 0 black
shown_of (Some picture) = picture

-- what a viewer shows
abbrev pub seen_by : Viewer → Grid Colour
seen_by viewer = shown_of (picture_of viewer)

-- a state that a viewer stands for, and the bytes that came of the server's next item
pub record IsViewing (viewer : Viewer) : Type 0 where
  pub viewing : Viewing
  pub state : ViewerState
  pub prefix : List ℕ
  pub stands : StandsFor viewing viewer state prefix

-- it has failed, or stands for a state
abbrev pub StandsOrFailed : Viewer → Type 0
StandsOrFailed viewer = fault_of viewer ≡ None → IsViewing viewer

-- ---- bytes of its server's

-- they were taken, up to the last byte of the first item that gives an event, or all: its state after them, its damage
-- and its copies
pub record TakesBytes (old : Viewer) (bytes : List ℕ) (fed : Fed ViewerEvent) (new : Viewer) : Type 0 where
  pub used : fed.used ≤ length bytes
  pub all : fed.event ≡ None → fed.used ≡ length bytes
  pub some : 0 < length bytes → 0 < fed.used
  pub fed_by : (viewing : Viewing) → FedBy (viewer_end viewing) (StandsFor viewing) old (take fed.used bytes)
      (seen fed.event) new
  pub damage : (viewing : Viewing) → FedBy (damaging viewing) (IsDamaged viewing) old (take fed.used bytes)
      (seen fed.event) new
  pub moved : (viewing : Viewing) → FedBy (moving viewing) (HasMoved viewing) old (take fed.used bytes)
      (seen fed.event) new
  pub made : making_of new ≡ making_of old
  pub counted : taken_of new ≡ counted_on (taken_of old) fed.used

-- they came to a fault, which stays; of one that had failed nothing has changed
pub record FailsAt (old : Viewer) (bytes : List ℕ) (fault : ViewerFault) (new : Viewer) : Type 0 where
  pub ends : EndsBy fault old bytes new
  pub again : (before : ViewerFault) → fault_of old ≡ Some before → (fault ≡ before) × (new ≡ old)
  pub damage : fault_of old ≡ None → KeepsDamage fault old bytes new
  pub moved : fault_of old ≡ None → KeepsMoved fault old bytes new
  pub counted : fault_of old ≡ None → CountsTo fault old bytes new
  pub made : making_of new ≡ making_of old

-- ---- what it reports

-- what it shows and its state are as they were, and so is all else but its damage and its copies
pub record KeepsViewing (old new : Viewer) : Type 0 where
  pub stands : (viewing : Viewing) (s : ViewerState) (prefix : List ℕ) →
      StandsFor viewing old s prefix → StandsFor viewing new s prefix
  pub picture : picture_of new ≡ picture_of old
  pub rest : KeepsRest old new

-- it was asked for its damage and its copies
pub record IsAsked (old new : Viewer) : Type 0 where
  pub keeps : KeepsViewing old new
  pub damage : ended_of new ≡ None
  pub moved : moved_of new ≡ []

-- ---- calls

-- a call was made, and its message was appended; or it was refused, and nothing has changed
pub record MakesCall (old : Viewer) (call : Call) (before : List ℕ) (result : Result (Unit {0}) AppendFault)
    (after : List ℕ) (new : Viewer) : Type 0 where
  pub sent : IfOk result (λ done. after ≡ before ++ message_bytes call)
  pub spelled : IfOk result (λ done. SpellsClientMessage (message_of call) (message_bytes call))
  pub kept : IfErr result (λ fault. after ≡ before)
  pub refusal : (viewing : Viewing) (s : ViewerState) (prefix : List ℕ) → StandsFor viewing old s prefix →
      append_refusal_of result ≡ refusal_for s prefix call
  pub refuses : append_refusal_of result ≡ refused_by old call
  pub failed : fault_of old ≢ None → result ≡ Err (Refused NotReady)
  pub stands : IfOk result (λ done. (viewing : Viewing) (s : ViewerState) (prefix : List ℕ) →
      StandsFor viewing old s prefix → StandsFor viewing new (called call s) prefix)
  pub refused : IfErr result (λ fault. new ≡ old)
  pub unnoted : is_noted call ≡ false → new ≡ old
  pub picture : picture_of new ≡ picture_of old
  pub keeps : KeepsRest old new
  pub damage : damage_of new ≡ damage_of old
  pub moved : moved_of new ≡ moved_of old
