-- An end that stands for a point has not failed, and goes on exactly where the handshake does.
use Rattle.std.proofs.Common.{◌≡◌, ℕ, true, List, None, refl, sym}
use Rattle.rfb_hello.specs.declared.server_hello.ServerHello.{ServerHello}
use Rattle.rfb_hello.specs.declared.server_hello.progress.Progress.{Progress as ServerProgress}
use Rattle.rfb_hello.specs.declared.server_hello.progress.Progress.TheVariants.{Version as VersionPart, Choice, Init}
use Rattle.rfb_hello.specs.declared.server_hello.progress.Progress.TheVariants.{Done, Failed}
use Rattle.rfb_hello.specs.declared.viewer_hello.ViewerHello.{ViewerHello}
use Rattle.rfb_hello.specs.declared.viewer_hello.progress.Progress.{Progress as ViewerProgress}
use Rattle.rfb_hello.specs.declared.viewer_hello.progress.Progress.TheVariants.{Version as ServerVersionPart, Word}
use Rattle.rfb_hello.specs.declared.viewer_hello.progress.Progress.TheVariants.{Count, Types, Result as ResultPart}
use Rattle.rfb_hello.specs.declared.viewer_hello.progress.Progress.TheVariants.{ReasonLength, Reason, Init as InitPart}
use Rattle.rfb_hello.specs.declared.viewer_hello.progress.Progress.TheVariants.{Name, Done as ViewerDone}
use Rattle.rfb_hello.specs.declared.viewer_hello.progress.Progress.TheVariants.{Failed as ViewerFailed}
use Rattle.rfb_hello.specs.declared.viewer_hello.progress.Cause.{Cause}
use Rattle.rfb_hello.specs.declared.viewer_hello.progress.Cause.TheVariants.{Refused, SecurityFailed}
use Rattle.rfb_hello.specs.declared.version.Version.TheVariants.{V33, V37, V38}
use Rattle.rfb_hello.specs.ClientHandshake.{ClientPoint, goes_on}
use Rattle.rfb_hello.specs.ServerHandshake.{ServerPoint, AwaitsSecurity, AwaitsResult, goes_on as server_goes_on}
use Rattle.rfb_hello.specs.ServerEnd.{ServerSetup}
use Rattle.rfb_hello.specs.ViewerEnd.{ViewerSetup, OpensReason}
use Rattle.rfb_hello.specs.ServerProgress.{ProgressStandsFor, fault_in, is_open as progress_is_open}
use Rattle.rfb_hello.specs.ViewerProgress.{ProgressStandsFor as ViewerProgressStandsFor, fault_in as viewer_fault_in}
use Rattle.rfb_hello.specs.ViewerProgress.{is_open as viewer_progress_is_open}
use Rattle.rfb_hello.specs.ServerModel.{StandsFor, fault_of, is_open}
use Rattle.rfb_hello.specs.ViewerModel.{StandsFor as ViewerStandsFor, fault_of as viewer_fault_of}
use Rattle.rfb_hello.specs.ViewerModel.{is_open as viewer_is_open}

server_going : (p : ServerProgress) (point : ClientPoint) (prefix : List ℕ) → ProgressStandsFor p point prefix →
    (fault_in p ≡ None) × (progress_is_open p ≡ goes_on point)
server_going (VersionPart text) point prefix h = rw h.0 (refl, refl)
server_going (Choice v) point prefix h = rw h.0 (refl, refl)
server_going (Init v) point prefix h = rw h.0 (refl, refl)
server_going (Done v shared) point prefix h = rw h.0 (refl, refl)
server_going (Failed fault) point prefix h = absurd h

pub server_stands : (setup : ServerSetup) (hello : ServerHello) (point : ClientPoint) (prefix : List ℕ) →
    StandsFor setup hello point prefix → (fault_of hello ≡ None) × (is_open hello ≡ goes_on point)
server_stands setup hello point prefix stands = server_going hello.progress point prefix stands.progress_is

-- before a reason the handshake goes on
reason_goes_on : (cause : Cause) (point : ServerPoint) (intro : List ℕ) → OpensReason cause point intro →
    server_goes_on point ≡ true
reason_goes_on Refused (AwaitsSecurity V33) intro o = refl
reason_goes_on Refused (AwaitsSecurity V37) intro o = refl
reason_goes_on Refused (AwaitsSecurity V38) intro o = refl
reason_goes_on SecurityFailed (AwaitsResult v) intro o = refl
reason_goes_on cause point intro o = absurd o

viewer_going : (limit : ℕ) (p : ViewerProgress) (point : ServerPoint) (prefix : List ℕ) →
    ViewerProgressStandsFor limit p point prefix →
    (viewer_fault_in p ≡ None) × (viewer_progress_is_open p ≡ server_goes_on point)
viewer_going limit (ServerVersionPart part) point prefix h = rw h.0 (refl, refl)
viewer_going limit (Word part) point prefix h = rw h.0 (refl, refl)
viewer_going limit (Count v) point prefix h = rw h.0 (refl, refl)
viewer_going limit (Types v list) point prefix h = rw h.0 (refl, refl)
viewer_going limit (ResultPart v part) point prefix h = rw h.0 (refl, refl)
viewer_going limit (ReasonLength cause part) point prefix h = (refl, sym (reason_goes_on cause point h.0 h.1))
viewer_going limit (Reason cause n more kept) point prefix h = (refl, sym (reason_goes_on cause point h.0 h.3))
viewer_going limit (InitPart v part) point prefix h = rw h.0 (refl, refl)
viewer_going limit (Name v w high n more kept) point prefix h = rw h.0 (refl, refl)
viewer_going limit ViewerDone point prefix h = rw h.3 (refl, refl)
viewer_going limit (ViewerFailed fault kept) point prefix h = absurd h

pub viewer_stands : (setup : ViewerSetup) (hello : ViewerHello) (point : ServerPoint) (prefix : List ℕ) →
    ViewerStandsFor setup hello point prefix →
    (viewer_fault_of hello ≡ None) × (viewer_is_open hello ≡ server_goes_on point)
viewer_stands setup hello point prefix stands =
    viewer_going setup.text_limit hello.progress point prefix stands.progress_is
