-- How far a server's handshake has come: what it stands for, and whether it goes on.
use Rattle.std.specs.Prelude.{◌≡◌, ◌<◌, ◌+◌, ◌-◌, ℕ, List, [], length, Option, Some, None, Bool, true, false}
use Rattle.rfb_hello.specs.declared.fault.HelloFault.{HelloFault}
use Rattle.rfb_hello.specs.declared.server_hello.progress.Progress.{Progress}
use Rattle.rfb_hello.specs.declared.server_hello.progress.Progress.TheVariants.{Version as VersionPart, Choice, Init}
use Rattle.rfb_hello.specs.declared.server_hello.progress.Progress.TheVariants.{Done, Failed}
use Rattle.rfb_hello.specs.ClientHandshake.{ClientPoint, AwaitsVersion, AwaitsChoice, AwaitsInit, Begun}

-- this progress stands for that point and that prefix; one that has failed stands for none
abbrev pub ProgressStandsFor : Progress → ClientPoint → List ℕ → Type 0
ProgressStandsFor (VersionPart text) point prefix =
    (point ≡ AwaitsVersion) × (prefix ≡ text.items) × (length text.items < 12)
ProgressStandsFor (Choice version) point prefix = (point ≡ AwaitsChoice version) × (prefix ≡ [])
ProgressStandsFor (Init version) point prefix = (point ≡ AwaitsInit version) × (prefix ≡ [])
ProgressStandsFor (Done version shared) point prefix =
    (point ≡ Begun version shared) × (prefix ≡ [])
ProgressStandsFor (Failed fault) point prefix = ⊥

-- the fault that it has failed with, if it has
abbrev pub fault_in : Progress → Option HelloFault
fault_in (Failed fault) = Some fault
fault_in progress = None

-- the client's bytes go on in the handshake
abbrev pub is_open : Progress → Bool
is_open (Done version shared) = false
is_open (Failed fault) = false
is_open progress = true

-- how many bytes the client sends at least before its handshake is done: what its version lacks and
-- ClientInit, since version 3.3 has no choice; its choice and ClientInit; ClientInit; or none
abbrev pub least_left : Progress → ℕ
least_left (VersionPart text) = 12 - length text.items + 1
least_left (Choice version) = 2
least_left (Init version) = 1
least_left (Done version shared) = 0
least_left (Failed fault) = 0
