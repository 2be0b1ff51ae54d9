-- How a share or a relay has ended, by the outcome of its core.
use Rattle.std.specs.Prelude.{◌≡◌, ⊤, Option, Some, None}
use Rattle.rfb_viewer.specs.declared.fault.ViewerFault.TheVariants.{ScreenTooLarge}
use Rattle.rfb_session.specs.declared.console.Outcome.{Outcome}
use Rattle.rfb_session.specs.declared.console.Outcome.TheVariants.{Quit, Idle, BadLine, NoMemory, Device, ServerGone}
use Rattle.rfb_session.specs.declared.engine.fault.EngineFault.{EngineFault}
use Rattle.rfb_session.specs.declared.engine.fault.EngineFault.TheVariants as engine
use Rattle.rfb_session.specs.declared.relay.gone.Gone.{Gone}
use Rattle.rfb_session.specs.declared.relay.gone.Gone.TheVariants as gone
use Rattle.rfb.specs.declared.fault.Failure.{Failure}
use Rattle.rfb.specs.declared.fault.Failure.TheVariants as failures
use Rattle.rfb.specs.declared.fault.Fault.TheVariants as faults

-- a line said `quit`, or the last viewer has gone
abbrev pub EndsWell : Option Outcome → Type 0
EndsWell None = ⊥
EndsWell (Some Quit) = ⊤
EndsWell (Some Idle) = ⊤
EndsWell (Some (BadLine number)) = ⊥
EndsWell (Some NoMemory) = ⊥
EndsWell (Some Device) = ⊥
EndsWell (Some (ServerGone why)) = ⊥

-- it has not ended so
abbrev pub IsNoEnd : Option Outcome → Type 0
IsNoEnd None = ⊤
IsNoEnd (Some Quit) = ⊥
IsNoEnd (Some Idle) = ⊥
IsNoEnd (Some (BadLine number)) = ⊤
IsNoEnd (Some NoMemory) = ⊤
IsNoEnd (Some Device) = ⊤
IsNoEnd (Some (ServerGone why)) = ⊤

-- where the server of a relay goes away, what a view of it would end with
abbrev pub engine_fault : Gone → EngineFault
engine_fault gone.Closed = engine.Truncated
engine_fault gone.Device = engine.Device
engine_fault (gone.Failed fault) = engine.Viewer fault
engine_fault (gone.Size width height) = engine.Viewer ScreenTooLarge

-- why the command fails for an outcome, if it does
abbrev pub failure_of : Outcome → Option Failure
failure_of Quit = None
failure_of Idle = None
failure_of (BadLine number) = Some (failures.BadLine number)
failure_of NoMemory = Some (failures.Fault faults.NoMemory)
failure_of Device = Some (failures.Fault faults.Device)
failure_of (ServerGone why) = Some (failures.Engine (engine_fault why))

-- the command fails so; where the core does not say that it has ended, waiting has failed
abbrev pub FailsFor : Option Outcome → Failure → Type 0
FailsFor None failure = failure ≡ failures.Fault faults.Device
FailsFor (Some outcome) failure = failure_of outcome ≡ Some failure
