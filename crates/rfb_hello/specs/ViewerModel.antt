-- What a `ViewerHello` stands for: a setup, a point of the handshake, and the bytes that came of
-- the server's next item, fewer than it has.
use Rattle.std.specs.Prelude.{◌≡◌, ℕ, Bool, true, false, List, ◌++◌, Option, None, Some, length}
use Rattle.rfb_wire.specs.stream.End.{RunsOutBy}
use Rattle.rfb_hello.specs.declared.fault.HelloFault.{HelloFault}
use Rattle.rfb_hello.specs.declared.fault.HelloFault.TheVariants.{Refused as RefusedFault}
use Rattle.rfb_hello.specs.declared.fault.HelloFault.TheVariants.{SecurityFailed as FailedFault}
use Rattle.rfb_hello.specs.declared.step.ViewerStep.{ViewerStep}
use Rattle.rfb_hello.specs.declared.step.ViewerStep.TheVariants.{Reply, Screen, Ready}
use Rattle.rfb_hello.specs.declared.viewer_hello.progress.Cause.{Cause}
use Rattle.rfb_hello.specs.declared.viewer_hello.progress.Cause.TheVariants.{Refused, SecurityFailed}
use Rattle.rfb_hello.specs.declared.viewer_hello.ViewerHello.{ViewerHello}
use Rattle.rfb_hello.specs.KeptText.{KeptText, no_text, kept_of}
use Rattle.rfb_hello.specs.ServerHandshake.{ServerPoint, IsWord}
use Rattle.rfb_hello.specs.ViewerEnd.{ViewerSetup, OpensReason, viewer_end}
use Rattle.rfb_hello.specs.ViewerProgress.{ProgressStandsFor, fault_in, reason_in, is_open as goes_on}

-- the setup that it was made with
abbrev pub setup_of : ViewerHello → ViewerSetup
setup_of hello =
    record {
      limit = hello.limit;
      shared = hello.shared;
      max_places = hello.max_places;
      text_limit = hello.text_limit;
    }

-- the end stands for a setup, a point and a prefix
pub record StandsFor (setup : ViewerSetup) (hello : ViewerHello) (point : ServerPoint)
    (prefix : List ℕ) : Type 0 where
  pub setup_is : setup_of hello ≡ setup
  pub progress_is : ProgressStandsFor setup.text_limit hello.progress point prefix

-- the fault that it has failed with, if it has
abbrev pub fault_of : ViewerHello → Option HelloFault
fault_of hello = fault_in hello.progress

-- the server's bytes go on in the handshake
abbrev pub is_open : ViewerHello → Bool
is_open hello = goes_on hello.progress

-- the handshake goes on after this event: `Ready` is the last
abbrev pub goes_on_after : Option ViewerStep → Bool
goes_on_after None = true
goes_on_after (Some (Reply reply)) = true
goes_on_after (Some (Screen width height)) = true
goes_on_after (Some (Ready width height version name name_length)) = false

-- what is kept of the reason that it has failed for; without one nothing
abbrev pub reason_of : ViewerHello → KeptText
reason_of hello = reason_in hello.progress

-- a reason of n bytes is whole at the last of these, and this is kept of its text
abbrev pub IsReasonKept : ℕ → Cause → ℕ → KeptText → ServerPoint → List ℕ → Type 0
IsReasonKept limit cause n kept point bytes =
    (intro word text : List ℕ) × (bytes ≡ intro ++ (word ++ text)) × OpensReason cause point intro
    × IsWord n word × (length text ≡ n) × (kept ≡ kept_of limit n text)

-- from each setup that the end stood for, the bytes have led there
abbrev pub LeadsToReason : Cause → ℕ → KeptText → ViewerHello → List ℕ → Type 0
LeadsToReason cause n kept old bytes =
    (setup : ViewerSetup)
    → RunsOutBy (viewer_end setup) (IsReasonKept setup.text_limit cause n kept)
    (StandsFor setup) old bytes

-- after a fault: the bytes have led to the last one of a reason, where one was given, and the end
-- keeps the first bytes of its text, with room for these alone; without a reason it keeps nothing
abbrev pub KeepsReason : HelloFault → ViewerHello → List ℕ → ViewerHello → Type 0
KeepsReason (RefusedFault n) old bytes new = LeadsToReason Refused n (reason_of new) old bytes
KeepsReason (FailedFault n) old bytes new = LeadsToReason SecurityFailed n (reason_of new) old bytes
KeepsReason fault old bytes new = reason_of new ≡ no_text
