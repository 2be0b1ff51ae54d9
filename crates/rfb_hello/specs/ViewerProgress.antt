-- How far a viewer's handshake has come: what it stands for, and whether it goes on.
use Rattle.std.specs.Prelude.{◌≡◌, ◌≢◌, ◌<◌, ◌+◌, ℕ, List, [], ◌∷◌, ◌++◌, length, Option, Some, None, Bool, true, false}
use Rattle.rfb_hello.specs.declared.version.Version.{Version}
use Rattle.rfb_hello.specs.declared.version.Version.TheVariants.{V33}
use Rattle.rfb_hello.specs.declared.fault.HelloFault.{HelloFault}
use Rattle.rfb_hello.specs.declared.viewer_hello.progress.Progress.{Progress}
use Rattle.rfb_hello.specs.declared.viewer_hello.progress.Progress.TheVariants.{Version as VersionPart, Word, Count}
use Rattle.rfb_hello.specs.declared.viewer_hello.progress.Progress.TheVariants.{Types, Result as ResultPart}
use Rattle.rfb_hello.specs.declared.viewer_hello.progress.Progress.TheVariants.{ReasonLength, Reason, Init, Name, Done}
use Rattle.rfb_hello.specs.declared.viewer_hello.progress.Progress.TheVariants.{Failed}
use Rattle.rfb_hello.specs.KeptText.{KeptText, no_text, kept_of}
use Rattle.rfb_hello.specs.ServerHandshake.{ServerPoint, AwaitsVersion, AwaitsSecurity, AwaitsResult, AwaitsInit}
use Rattle.rfb_hello.specs.ServerHandshake.{AwaitsName, Begun, IsWord}
use Rattle.rfb_hello.specs.ViewerEnd.{OpensReason}

-- under a limit of texts, this progress stands for that point and that prefix; one that has failed
-- stands for none
abbrev pub ProgressStandsFor : ℕ → Progress → ServerPoint → List ℕ → Type 0
ProgressStandsFor limit (VersionPart part) point prefix =
    (point ≡ AwaitsVersion) × (prefix ≡ part.items) × (length part.items < 12)
ProgressStandsFor limit (Word part) point prefix =
    (point ≡ AwaitsSecurity V33) × (prefix ≡ part.items) × (length part.items < 4)
ProgressStandsFor limit (Count version) point prefix =
    (point ≡ AwaitsSecurity version) × (version ≢ V33) × (prefix ≡ [])
ProgressStandsFor limit (Types version list) point prefix =
    (point ≡ AwaitsSecurity version) × (version ≢ V33)
    × (prefix ≡ (length list.types + (list.more + 1)) ∷ list.types)
ProgressStandsFor limit (ResultPart version part) point prefix =
    (point ≡ AwaitsResult version) × (prefix ≡ part.items) × (length part.items < 4)
ProgressStandsFor limit (ReasonLength cause part) point prefix =
    (intro : List ℕ) × OpensReason cause point intro × (prefix ≡ intro ++ part.items)
    × (length part.items < 4)
ProgressStandsFor limit (Reason cause n more kept) point prefix =
    (intro word text : List ℕ) × OpensReason cause point intro × (prefix ≡ intro ++ (word ++ text))
    × IsWord n word × (length text + (more + 1) ≡ n) × (kept ≡ kept_of limit n text)
ProgressStandsFor limit (Init version part) point prefix =
    (point ≡ AwaitsInit version) × (prefix ≡ part.items) × (length part.items < 24)
ProgressStandsFor limit (Name version width height n more kept) point prefix =
    (point ≡ AwaitsName version width height n) × (length prefix + (more + 1) ≡ n)
    × (kept ≡ kept_of limit n prefix)
ProgressStandsFor limit Done point prefix =
    (version : Version) × (width height : ℕ) × (point ≡ Begun version width height) × (prefix ≡ [])
ProgressStandsFor limit (Failed fault kept) point prefix = ⊥

-- the fault that it has failed with, if it has
abbrev pub fault_in : Progress → Option HelloFault
fault_in (Failed fault kept) = Some fault
fault_in progress = None

-- what is kept of the reason that it has failed for; without one nothing
abbrev pub reason_in : Progress → KeptText
reason_in (Failed fault kept) = kept
reason_in progress = no_text

-- the server's bytes go on in the handshake
abbrev pub is_open : Progress → Bool
is_open Done = false
is_open (Failed fault kept) = false
is_open progress = true
