-- The verdict of a recording: what all of a server's bytes are, item by item, and how a viewer that is fed them ends.
use Rattle.std.specs.Prelude.{◌≡◌, ◌≢◌, ℕ, ◌<◌, ◌+◌, ◌-◌, ◌^◌, Bool, true, false, List, [], ◌∷◌, length, Option, Some}
use Rattle.std.specs.Prelude.{None, Result, Ok, Err}
use Rattle.rfb_wire.specs.stream.Grammar.{HasVerdict, past_all}
use Rattle.rfb_wire.specs.stream.End.{acts, told}
use Rattle.rfb_viewer.specs.declared.fault.ViewerFault.{ViewerFault}
use Rattle.rfb_viewer.specs.declared.fault.ViewerFault.TheVariants.{NoMemory as WantOfMemory}
use Rattle.rfb_viewer.specs.declared.viewer.Viewer.{Viewer}
use Rattle.rfb_viewer.specs.ServerBytes.{FromServer, server_bytes, is_between}
use Rattle.rfb_viewer.specs.Told.{ViewerTold}
use Rattle.rfb_viewer.specs.Viewer.{Viewing, ViewerState, viewer}
use Rattle.rfb_viewer.specs.Model.{StandsFor, fault_of}
use Rattle.rfb_session.specs.declared.engine.fault.EngineFault.{EngineFault}
use Rattle.rfb_session.specs.declared.engine.fault.EngineFault.TheVariants.{Viewer as ViewerEnded, Truncated}
use Rattle.rfb_session.specs.ViewerActs.{ends_told}
use Rattle.rfb_session.specs.Playback.{most}

-- how many updates end with events
abbrev pub updates_told : List ViewerTold → ℕ
updates_told [] = 0
updates_told (event ∷ events) = ends_told (Some event) + updates_told events

-- the answer to bytes, by their fault; or, where they have none, by whether they end between two
-- messages, and by how many updates end in them
abbrev pub answer_to : Option ViewerFault → Bool → ℕ → Result ℕ EngineFault
answer_to (Some fault) between updates = Err (ViewerEnded fault)
answer_to None true updates = Ok (most updates)
answer_to None false updates = Err Truncated

-- the viewer is at the point that these items lead to from a state, shows their effect, and holds those bytes of the
-- next one
pub record StandsAfter (viewing : Viewing) (s : ViewerState) (items : List FromServer)
    (rest : List ℕ) (new : Viewer) : Type 0 where
  pub state : ViewerState
  pub stands : StandsFor viewing new state rest
  pub point_is : state.point ≡ (acts (viewer viewing) s items).point
  pub picture_is : state.picture ≡ (acts (viewer viewing) s items).picture

-- bytes that are these items from a state on, and then have that fault or none, are answered so
pub record IsAnsweredAs (viewing : Viewing) (s : ViewerState) (items : List FromServer)
    (fault : Option ViewerFault) (rest : List ℕ) (answer : Result ℕ EngineFault)
    (new : Viewer) : Type 0 where
  pub answer_is : answer ≡ answer_to fault
      (is_between (past_all (server_bytes viewing.form viewing.hello) s.point items) rest)
      (updates_told (told (viewer viewing) s items))
  pub stands : fault ≡ None → StandsAfter viewing s items rest new
  pub fails : (f : ViewerFault) → fault ≡ Some f → fault_of new ≡ Some f

-- whatever state between two items the viewer stood for, a fresh one its first: by the one verdict
-- that the bytes have there
abbrev pub IsJudged : Viewer → List ℕ → Result ℕ EngineFault → Viewer → Type 0
IsJudged old bytes answer new =
    (viewing : Viewing) (s : ViewerState) → StandsFor viewing old s [] →
    (items : List FromServer) (fault : Option ViewerFault)
    (v : HasVerdict (server_bytes viewing.form viewing.hello) s.point bytes items fault) →
    IsAnsweredAs viewing s items fault v.rest answer new

-- the same of a source whose bytes are known, fewer than 2 ^ 64 - 1, where no read failed and no memory was wanting
abbrev pub JudgesAll : Option (List ℕ) → ℕ → ℕ → Viewer → Result ℕ EngineFault → Viewer → Type 0
JudgesAll unread failing failed old answer new =
    (bytes : List ℕ) → unread ≡ Some bytes → length bytes < 2 ^ 64 - 1 → failed ≡ failing →
    answer ≢ Err (ViewerEnded WantOfMemory) → IsJudged old bytes answer new
