-- What the parts of the server's end promise that take one piece of the handshake. No public
-- clause reads these words.
use Rattle.std.specs.Prelude.{ℕ, List, Option, length, take}
use Rattle.rfb_wire.specs.stream.End.{FedBy, RefusedBy}
use Rattle.rfb_hello.specs.declared.fault.HelloFault.{HelloFault}
use Rattle.rfb_hello.specs.declared.server_hello.ServerHello.{ServerHello}
use Rattle.rfb_hello.specs.declared.step.ServerStep.{ServerStep}
use Rattle.rfb_hello.specs.ServerEnd.{ServerSetup, server_end}
use Rattle.rfb_hello.specs.ServerModel.{StandsFor}
use Rattle.rfb_hello.specs.declared.version.Version.{Version}
use Rattle.rfb_hello.specs.declared.version.Version.TheVariants.{V33, V37, V38}
use Rattle.rfb_hello.specs.declared.server_hello.progress.Progress.{Progress}
use Rattle.rfb_hello.specs.declared.server_hello.progress.Progress.TheVariants.{Version as VersionPart, Choice, Init}
use Rattle.rfb_hello.specs.declared.server_hello.progress.Progress.TheVariants.{Done, Failed}

-- an end takes this number of these bytes, and returns that, whatever it was made with
abbrev pub TakesAs : ServerHello → List ℕ → ServerHello → (ℕ × Option ServerStep) → Type 0
TakesAs old bytes new taken =
    (setup : ServerSetup)
    → FedBy (server_end setup) (StandsFor setup) old (take taken.0 bytes) taken.1 new

-- a beginning of these bytes has that fault
abbrev pub RefusesAs : ServerHello → List ℕ → HelloFault → Type 0
RefusesAs old bytes fault =
    (setup : ServerSetup) → RefusedBy (server_end setup) (StandsFor setup) old bytes fault

-- how many bytes have come of a piece that is not whole
abbrev pub part_in : Progress → ℕ
part_in (VersionPart text) = length text.items
part_in (Choice version) = 0
part_in (Init version) = 0
part_in (Done version shared) = 0
part_in (Failed fault) = 0

-- what comes next of a client that goes by this version
abbrev pub progress_after : Version → Progress
progress_after V33 = Init V33
progress_after V37 = Choice V37
progress_after V38 = Choice V38
