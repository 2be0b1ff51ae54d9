-- What an engine did with a viewer that it asks for updates: bytes that it was fed, and requests in
-- turn with them.
use Rattle.std.specs.Prelude.{◌≡◌, ℕ, ◌<◌, ◌+◌, ◌-◌, ◌^◌, Bool, true, false, List, [], ◌∷◌, ◌++◌, length, Option, Some}
use Rattle.std.specs.Prelude.{None, ⊤, ◌⊎◌}
use Rattle.std.specs.Io.KnownBytes.{Appends, Consumes, IsAtEnd}
use Rattle.rfb_viewer.specs.declared.fault.ViewerFault.{ViewerFault}
use Rattle.rfb_viewer.specs.declared.viewer.Viewer.{Viewer}
use Rattle.rfb_viewer.specs.Told.{ViewerTold, Reply, Ready, UpdateDone, Bell, CutText, ColourMapSkipped}
use Rattle.rfb_viewer.specs.Viewer.{Viewing, ViewerState}
use Rattle.rfb_viewer.specs.Model.{StandsFor}
use Rattle.rfb_session.specs.declared.engine.fault.EngineFault.{EngineFault}
use Rattle.rfb_session.specs.declared.engine.fault.EngineFault.TheVariants.{Server, Viewer as ViewerEnded, Truncated}
use Rattle.rfb_session.specs.declared.engine.fault.EngineFault.TheVariants.{Device, NoMemory}
use Rattle.rfb_session.specs.Devices.{AppendsBeginning}
use Rattle.rfb_session.specs.EngineRun.{Step, Fed, Did, Ran}
use Rattle.rfb_session.specs.ViewerActs.{ViewerAct, Asked, PassedOver, viewer_driven, EndsBy}
use Rattle.rfb_session.specs.Wire.{Writing, by_bytes}

-- ---- requests in turn

-- what is due after this event: all of the screen where the handshake is done, and after an update
-- what has changed
abbrev pub due_after : Option ViewerTold → Option Bool
due_after None = None
due_after (Some (Reply bytes)) = None
due_after (Some (Ready bytes width height name name_length)) = Some false
due_after (Some UpdateDone) = Some true
due_after (Some Bell) = None
due_after (Some (CutText kept text_length)) = None
due_after (Some ColourMapSkipped) = None

-- the same after steps, the latest first
abbrev pub due : List (Step ViewerTold ViewerAct) → Option Bool
due [] = None
due (Fed bytes event ∷ before) = due_after event
due (Did act ∷ before) = None

abbrev pub is_incremental : ViewerAct → Bool
is_incremental (Asked incremental area) = incremental
is_incremental (PassedOver incremental) = incremental

-- a request comes where it is due and nowhere else, and until it came nothing more is fed
abbrev pub AsksInTurn : List (Step ViewerTold ViewerAct) → Type 0
AsksInTurn [] = ⊤
AsksInTurn (Fed bytes event ∷ before) = AsksInTurn before × (due before ≡ None)
AsksInTurn (Did act ∷ before) = AsksInTurn before × (due before ≡ Some (is_incremental act))

-- it was fed these bytes, these are sent, `updates` updates ended, and it became that one, whatever
-- it stood for; requests came in turn, and this one is due then
abbrev pub RunsInTurn : Viewer → List ℕ → List ℕ → ℕ → Option Bool → Viewer → Type 0
RunsInTurn old fed sent updates asks new =
    (viewing : Viewing) (s : ViewerState) (prefix : List ℕ) → StandsFor viewing old s prefix →
    (r : Ran viewer_driven viewing s prefix new fed sent updates)
    × AsksInTurn r.steps × (due r.steps ≡ asks)

-- ---- why it stops

-- `updates` updates ended, and it was fed no byte after the last; all that is sent was written, and
-- all that it was fed was kept
pub record HasViewed (unread left before after blank copied : Option (List ℕ)) (old : Viewer)
    (updates : ℕ) (new : Viewer) : Type 0 where
  pub fed : List ℕ
  pub later : List ℕ
  pub sent : List ℕ
  pub read : Consumes unread left (fed ++ later)
  pub runs : RunsInTurn old fed sent updates (Some true) new
  pub wrote : Appends before after sent
  pub kept : Appends blank copied fed

-- it was fed all that there was, if that is known and has fewer than 2 ^ 64 - 1 bytes; fewer
-- updates ended, and no request is due
pub record HasMissed (unread left before after blank copied : Option (List ℕ)) (old : Viewer)
    (updates : ℕ) (new : Viewer) : Type 0 where
  pub fed : List ℕ
  pub sent : List ℕ
  pub ended : ℕ
  pub fewer : ended < updates
  pub read : Consumes unread left fed
  pub all : (bytes : List ℕ) → unread ≡ Some bytes → length bytes < 2 ^ 64 - 1 → IsAtEnd left
  pub runs : RunsInTurn old fed sent ended None new
  pub wrote : Appends before after sent
  pub kept : Appends blank copied fed

module _ {D : Type 0} where
  -- a beginning of the last part was kept, and what was written is all that is sent for the bytes
  -- before it
  pub record KeepsPart (writing : Writing D) (old : Viewer) (fed : List ℕ) (before after : D)
      (blank copied : Option (List ℕ)) : Type 0 where
    pub earlier : List ℕ
    pub part : List ℕ
    pub sent : List ℕ
    pub updates : ℕ
    pub last : Viewer
    pub mid : Option (List ℕ)
    pub fed_is : fed ≡ earlier ++ part
    pub runs : RunsInTurn old earlier sent updates None last
    pub wrote : writing.all before after sent
    pub kept : Appends blank mid earlier
    pub begun : AppendsBeginning mid copied part

  -- what it was fed is kept before what is sent for it is written: all of that was kept, or nothing
  -- was written for the part that was not
  abbrev pub KeepsFirst : Writing D → Viewer → List ℕ → D → D → Option (List ℕ) →
      Option (List ℕ) → Type 0
  KeepsFirst writing old fed before after blank copied =
      Appends blank copied fed ⊎ KeepsPart writing old fed before after blank copied

-- it was fed the first bytes of what was read; beginnings of what is sent and of what it was fed
-- were written and kept
pub record ViewedSome (unread left before after blank copied : Option (List ℕ)) (old new : Viewer)
    : Type 0 where
  pub fed : List ℕ
  pub later : List ℕ
  pub sent : List ℕ
  pub updates : ℕ
  pub asks : Option Bool
  pub read : Consumes unread left (fed ++ later)
  pub runs : RunsInTurn old fed sent updates asks new
  pub wrote : AppendsBeginning before after sent
  pub kept : AppendsBeginning blank copied fed
  pub first : KeepsFirst by_bytes old fed before after blank copied

-- the bytes that it ended at were kept, all of them; or a beginning, where a write of them failed,
-- which was counted
abbrev pub KeepsLast : Option (List ℕ) → Option (List ℕ) → List ℕ → ℕ → ℕ → Type 0
KeepsLast mid copied slice failing failed =
    ((failed ≡ failing) × Appends mid copied slice)
    ⊎ ((failed ≡ failing + 1) × AppendsBeginning mid copied slice)

-- all that it was fed was kept, and then those
abbrev pub KeepsUntil : Option (List ℕ) → Option (List ℕ) → List ℕ → List ℕ → ℕ → ℕ → Type 0
KeepsUntil blank copied fed slice failing failed =
    (mid : Option (List ℕ)) × Appends blank mid fed × KeepsLast mid copied slice failing failed

module _ {D : Type 0} where
  -- of some bytes, for which `known` holds, it was fed the first, all that is sent was written, and it ended at the
  -- others
  pub record ViewsUntil (known : List ℕ → Type 0) (writing : Writing D) (old : Viewer) (before after : D)
      (blank copied : Option (List ℕ)) (failing failed : ℕ) (fault : ViewerFault) (new : Viewer) : Type 0 where
    pub fed : List ℕ
    pub slice : List ℕ
    pub sent : List ℕ
    pub updates : ℕ
    pub last : Viewer
    pub read : known (fed ++ slice)
    pub runs : RunsInTurn old fed sent updates None last
    pub wrote : writing.all before after sent
    pub kept : KeepsUntil blank copied fed slice failing failed
    pub ends : EndsBy fault last slice new

-- the same of what was read
abbrev pub ViewedUntil : Option (List ℕ) → Option (List ℕ) → Option (List ℕ) → Option (List ℕ) →
    Option (List ℕ) → Option (List ℕ) → ℕ → ℕ → Viewer → ViewerFault → Viewer → Type 0
ViewedUntil unread left before after blank copied failing failed old fault new =
    ViewsUntil (λ all. Consumes unread left all) by_bytes old before after blank copied failing failed fault new

-- the bytes ended before `updates` updates had; a read or a write failed, which was counted; or the
-- viewer ended
abbrev pub StopsViewing : Option (List ℕ) → Option (List ℕ) → Option (List ℕ) → Option (List ℕ) →
    Option (List ℕ) → Option (List ℕ) → ℕ → ℕ → Viewer → ℕ → EngineFault → Viewer → Type 0
StopsViewing unread left before after blank copied failing failed old updates Truncated new =
    HasMissed unread left before after blank copied old updates new
StopsViewing unread left before after blank copied failing failed old updates Device new =
    (failed ≡ failing + 1) × ViewedSome unread left before after blank copied old new
StopsViewing unread left before after blank copied failing failed old updates
    (ViewerEnded fault) new =
    ViewedUntil unread left before after blank copied failing failed old fault new
StopsViewing unread left before after blank copied failing failed old updates (Server fault) new = ⊥
StopsViewing unread left before after blank copied failing failed old updates NoMemory new = ⊥
