-- One read of an engine that asks its viewer for updates: calls, and requests after them.
use Rattle.std.specs.Prelude.{◌≡◌, ℕ, zero, suc, ◌<◌, ◌+◌, Bool, true, List, [], ◌++◌, Option, Some, None, ◌⊎◌}
use Rattle.std.specs.Io.KnownBytes.{Appends}
use Rattle.rfb_viewer.specs.declared.fault.ViewerFault.{ViewerFault}
use Rattle.rfb_viewer.specs.declared.viewer.Viewer.{Viewer}
use Rattle.rfb_viewer.specs.Told.{ViewerTold}
use Rattle.rfb_viewer.specs.Viewer.{Viewing, ViewerState}
use Rattle.rfb_viewer.specs.Model.{StandsFor}
use Rattle.rfb_session.specs.declared.engine.fault.EngineFault.{EngineFault}
use Rattle.rfb_session.specs.declared.engine.fault.EngineFault.TheVariants.{Server, Viewer as ViewerEnded, Truncated}
use Rattle.rfb_session.specs.declared.engine.fault.EngineFault.TheVariants.{Device, NoMemory}
use Rattle.rfb_session.specs.Devices.{AppendsBeginning}
use Rattle.rfb_session.specs.EngineRun.{Did}
use Rattle.rfb_session.specs.ViewerActs.{ViewerAct, Asks, viewer_sends, ends_told, WasFed}
use Rattle.rfb_session.specs.ViewEngine.{is_incremental, RunsInTurn, KeepsFirst, ViewsUntil}
use Rattle.rfb_session.specs.Wire.{Writing}

-- a request for the whole screen, made or passed over between two items, and what is sent for it
pub record AsksForScreen (incremental : Bool) (old : Viewer) (sent : List ℕ)
    (new : Viewer) : Type 0 where
  pub act : ViewerAct
  pub kind : is_incremental act ≡ incremental
  pub sent_is : sent ≡ viewer_sends (Did act)
  pub asked : (viewing : Viewing) (s : ViewerState) → StandsFor viewing old s [] →
      (t : ViewerState) × Asks s act t × StandsFor viewing new t []

-- the same, or nothing was asked
abbrev pub MayAsk : Viewer → Viewer → Type 0
MayAsk old new =
    (new ≡ old) ⊎ ((incremental : Bool) × (sent : List ℕ) × AsksForScreen incremental old sent new)

module _ {D : Type 0} where
  -- it was written; or a beginning of it was
  pub record HasAsked (writing : Writing D) (incremental : Bool) (old : Viewer) (before after : D)
      (new : Viewer) : Type 0 where
    pub sent : List ℕ
    pub asks : AsksForScreen incremental old sent new
    pub wrote : writing.all before after sent

  pub record IsCutInAsking (writing : Writing D) (incremental : Bool) (old : Viewer)
      (before after : D) (new : Viewer) : Type 0 where
    pub sent : List ℕ
    pub asks : AsksForScreen incremental old sent new
    pub wrote : writing.some before after sent

-- what is due, by how many updates are looked for: none is where the last has ended
abbrev pub due_until : ℕ → Option Bool
due_until zero = Some true
due_until (suc left) = None

module _ {D : Type 0} where
  -- a call and what was done after it: it was answered, and a request was made if one was due
  pub record IsAnswered (writing : Writing D) (old : Viewer) (event : Option ViewerTold)
      (left fewer : ℕ) (before after : D) (new : Viewer) : Type 0 where
    pub sent : List ℕ
    pub counted : left ≡ ends_told event + fewer
    pub runs : (first : Viewer) (bytes : List ℕ) → WasFed first bytes event old →
        RunsInTurn first bytes sent (ends_told event) (due_until fewer) new
    pub wrote : writing.all before after sent

  -- not all of this was written
  pub record IsCutInAnswer (writing : Writing D) (old : Viewer) (event : Option ViewerTold)
      (before after : D) (new : Viewer) : Type 0 where
    pub sent : List ℕ
    pub asks : Option Bool
    pub runs : (first : Viewer) (bytes : List ℕ) → WasFed first bytes event old →
        RunsInTurn first bytes sent (ends_told event) asks new
    pub wrote : writing.some before after sent

  -- all of the bytes were fed and kept, and `fewer` updates are looked for then
  pub record Looks (writing : Writing D) (old : Viewer) (bytes : List ℕ) (left fewer : ℕ)
      (before after : D) (blank copied : Option (List ℕ)) (new : Viewer) : Type 0 where
    pub sent : List ℕ
    pub updates : ℕ
    pub counted : left ≡ updates + fewer
    pub runs : RunsInTurn old bytes sent updates (due_until fewer) new
    pub wrote : writing.all before after sent
    pub kept : Appends blank copied bytes

  -- the first of them were; where updates are still looked for, all
  pub record HasLooked (writing : Writing D) (old : Viewer) (bytes : List ℕ) (left fewer : ℕ)
      (before after : D) (blank copied : Option (List ℕ)) (new : Viewer) : Type 0 where
    pub fed : List ℕ
    pub later : List ℕ
    pub bytes_are : bytes ≡ fed ++ later
    pub all : 0 < fewer → later ≡ []
    pub looks : Looks writing old fed left fewer before after blank copied new

  -- some were fed, and an answer, a request or what is kept was not written whole
  pub record IsLookCutOff (writing : Writing D) (old : Viewer) (bytes : List ℕ) (before after : D)
      (blank copied : Option (List ℕ)) (new : Viewer) : Type 0 where
    pub fed : List ℕ
    pub later : List ℕ
    pub sent : List ℕ
    pub updates : ℕ
    pub asks : Option Bool
    pub bytes_are : bytes ≡ fed ++ later
    pub runs : RunsInTurn old fed sent updates asks new
    pub wrote : writing.some before after sent
    pub kept : AppendsBeginning blank copied fed
    pub first : KeepsFirst writing old fed before after blank copied

  -- some were fed, all answers were written, and the viewer ended at the others
  abbrev pub IsLookEnded : Writing D → Viewer → List ℕ → D → D → Option (List ℕ) →
      Option (List ℕ) → ℕ → ℕ → ViewerFault → Viewer → Type 0
  IsLookEnded writing old bytes before after blank copied failing failed fault new =
      ViewsUntil (λ all. bytes ≡ all) writing old before after blank copied failing failed fault new

  abbrev pub StopsLooking : Writing D → Viewer → List ℕ → D → D → Option (List ℕ) →
      Option (List ℕ) → ℕ → ℕ → EngineFault → Viewer → Type 0
  StopsLooking writing old bytes before after blank copied failing failed Device new =
      (failed ≡ failing + 1) × IsLookCutOff writing old bytes before after blank copied new
  StopsLooking writing old bytes before after blank copied failing failed (ViewerEnded fault) new =
      IsLookEnded writing old bytes before after blank copied failing failed fault new
  StopsLooking writing old bytes before after blank copied failing failed (Server fault) new = ⊥
  StopsLooking writing old bytes before after blank copied failing failed Truncated new = ⊥
  StopsLooking writing old bytes before after blank copied failing failed NoMemory new = ⊥
