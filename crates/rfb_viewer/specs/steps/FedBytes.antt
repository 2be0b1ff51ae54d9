-- What a viewer makes of bytes that it is fed.
use Rattle.std.specs.Prelude.{◌≡◌, ◌≢◌, ℕ, Bool, true, false, List, Option, Some, None, Ok}
use Rattle.rfb_wire.specs.stream.End.{RefusedBy, RunsOutBy, StepsBy}
use Rattle.rfb_viewer.specs.declared.fault.ViewerFault.{ViewerFault}
use Rattle.rfb_viewer.specs.declared.fault.ViewerFault.TheVariants.{NoMemory}
use Rattle.rfb_viewer.specs.declared.event.ViewerEvent.{ViewerEvent}
use Rattle.rfb_viewer.specs.declared.event.ViewerEvent.TheVariants.{UpdateDone}
use Rattle.rfb_viewer.specs.declared.viewer.Viewer.{Viewer}
use Rattle.rfb_viewer.specs.Told.{seen}
use Rattle.rfb_viewer.specs.Viewer.{Viewing, viewer, AsksMemory}
use Rattle.rfb_viewer.specs.Model.{StandsFor}

-- it steps by bytes of one item, all of which it used: what it tells, and what it then stands for,
-- are as the grammar has it
abbrev pub StepsOn : Viewer → List ℕ → Option ViewerEvent → Viewer → Type 0
StepsOn old bytes event new =
    (viewing : Viewing) →
    StepsBy (viewer viewing) (StandsFor viewing) old bytes (Ok (seen event)) new

-- the event of data that end an update, or do not
abbrev pub end_event : Bool → Option ViewerEvent
end_event true = Some UpdateDone
end_event false = None

-- bytes are at fault
abbrev pub RefusesBy : Viewer → List ℕ → ViewerFault → Type 0
RefusesBy old bytes fault =
    fault ≢ NoMemory → (viewing : Viewing) →
    RefusedBy (viewer viewing) (StandsFor viewing) old bytes fault

-- bytes lead to where memory is asked for
abbrev pub StarvesBy : Viewer → List ℕ → ViewerFault → Type 0
StarvesBy old bytes fault =
    fault ≡ NoMemory → (viewing : Viewing) →
    RunsOutBy (viewer viewing) (AsksMemory viewing) (StandsFor viewing) old bytes
