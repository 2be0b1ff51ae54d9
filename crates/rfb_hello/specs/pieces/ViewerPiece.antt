-- What each part of the viewer's end promises that takes one piece of the handshake. No public
-- clause reads these words.
use Rattle.std.specs.Prelude.{◌≡◌, ◌≢◌, ◌<◌, ◌≤◌, ℕ, zero, suc, List, [], length, take, Option, Some, None, Result, Err}
use Rattle.std.specs.Prelude.{IfOk, IfErr}
use Rattle.rfb_wire.specs.stream.End.{RunsOutBy, StepsBy}
use Rattle.rfb_hello.specs.declared.fault.HelloFault.{HelloFault}
use Rattle.rfb_hello.specs.declared.fault.HelloFault.TheVariants.{NoMemory, Refused as RefusedFault}
use Rattle.rfb_hello.specs.declared.fault.HelloFault.TheVariants.{SecurityFailed as FailedFault}
use Rattle.rfb_hello.specs.declared.step.ViewerStep.{ViewerStep}
use Rattle.rfb_hello.specs.declared.version.Version.{Version}
use Rattle.rfb_hello.specs.declared.version.Version.TheVariants.{V33, V37, V38}
use Rattle.rfb_hello.specs.declared.viewer_hello.ViewerHello.{ViewerHello}
use Rattle.rfb_hello.specs.declared.viewer_hello.progress.Cause.{Cause}
use Rattle.rfb_hello.specs.declared.viewer_hello.progress.Cause.TheVariants.{Refused, SecurityFailed}
use Rattle.rfb_hello.specs.declared.viewer_hello.progress.Progress.{Progress}
use Rattle.rfb_hello.specs.declared.viewer_hello.progress.Progress.TheVariants.{Version as VersionPart, Word, Count}
use Rattle.rfb_hello.specs.declared.viewer_hello.progress.Progress.TheVariants.{Result as ResultPart}
use Rattle.rfb_hello.specs.declared.viewer_hello.progress.Progress.TheVariants.{ReasonLength, Init, Name, Done}
use Rattle.rfb_hello.specs.KeptText.{kept_of}
use Rattle.rfb_hello.specs.ViewerEnd.{ViewerSetup, AsksMemory, viewer_end}
use Rattle.rfb_hello.specs.Offer.{KeepsOffer, TakesOffer}
use Rattle.rfb_hello.specs.ViewerModel.{KeepsReason, StandsFor, fault_of, goes_on_after, is_open, setup_of}

-- bytes of one item are a step of the machine, where memory is not wanting
abbrev pub StepsAs : ViewerHello → List ℕ → Result (Option ViewerStep) HelloFault → ViewerHello →
    Type 0
StepsAs old bytes result new =
    result ≢ Err NoMemory → (setup : ViewerSetup)
    → StepsBy (viewer_end setup) (StandsFor setup) old bytes result new

-- where it is, the bytes have led to where it is asked for
abbrev pub RunsOutAs : ViewerHello → List ℕ → Result (Option ViewerStep) HelloFault → Type 0
RunsOutAs old bytes result =
    result ≡ Err NoMemory → (setup : ViewerSetup)
    → RunsOutBy (viewer_end setup) (AsksMemory setup) (StandsFor setup) old bytes

-- of these bytes `used` were taken, all of the server's next item, and `event` is what is returned
-- once it is whole, or the fault that it has
pub record TakesPiece (old : ViewerHello) (bytes : List ℕ) (used : ℕ)
    (event : Result (Option ViewerStep) HelloFault) (new : ViewerHello) : Type 0 where
  pub some : 0 < used
  pub within : used ≤ length bytes
  pub steps : StepsAs old (take used bytes) event new
  pub memory : RunsOutAs old (take used bytes) event
  pub goes : IfOk event (λ e. is_open new ≡ goes_on_after e)
  pub going : IfOk event (λ e. fault_of new ≡ None)
  pub fails : IfErr event (λ fault. fault_of new ≡ Some fault)
  pub reason : IfErr event (λ fault. KeepsReason fault old (take used bytes) new)
  pub offer : IfErr event (λ fault. KeepsOffer fault old (take used bytes) new)
  pub offered : IfOk event (λ e. TakesOffer e old (take used bytes) new)
  pub setup : setup_of new ≡ setup_of old

-- ---- what a part leaves after it

-- the fault that a reason of that length is given for
abbrev pub fault_for : Cause → ℕ → HelloFault
fault_for Refused reason_length = RefusedFault reason_length
fault_for SecurityFailed reason_length = FailedFault reason_length

-- how many bytes have come of a piece that is not whole
abbrev pub part_in : Progress → ℕ
part_in (VersionPart part) = length part.items
part_in (Word part) = length part.items
part_in (ResultPart version part) = length part.items
part_in (ReasonLength cause part) = length part.items
part_in (Init version part) = length part.items
part_in progress = 0

-- what comes next of a server with which a version is used
abbrev pub progress_after_version : Version → Progress
progress_after_version V33 = Word (record { items = [] })
progress_after_version V37 = Count V37
progress_after_version V38 = Count V38

-- of one that offered None in a list
abbrev pub progress_after_types : Version → Progress
progress_after_types V33 = Init V33 (record { items = [] })
progress_after_types V37 = Init V37 (record { items = [] })
progress_after_types V38 = ResultPart V38 (record { items = [] })

-- of one that told its screen, and how many bytes its name has
abbrev pub progress_after_init : ℕ → Version → ℕ → ℕ → ℕ → Progress
progress_after_init limit version width height zero = Done
progress_after_init limit version width height (suc n) =
    Name version width height (suc n) n (kept_of limit (suc n) [])
