-- Who watches an engine's viewer: it hears once that the handshake is done, and of the end of each
-- update.
use Rattle.std.specs.Prelude.{◌≡◌, ℕ, ◌<◌, ◌+◌, ◌-◌, ◌^◌, min, Bool, List, [], ◌++◌, Option, Some, None, Result}
use Rattle.std.specs.Prelude.{Ok, Err}
use Rattle.std.specs.Io.KnownBytes.{Consumes}
use Rattle.rfb_viewer.specs.declared.fault.ViewerFault.{ViewerFault}
use Rattle.rfb_viewer.specs.declared.viewer.Viewer.{Viewer}
use Rattle.rfb_viewer.specs.Told.{ViewerTold, Reply, Ready, UpdateDone, Bell, CutText, ColourMapSkipped}
use Rattle.rfb_session.specs.declared.engine.fault.EngineFault.{EngineFault}
use Rattle.rfb_session.specs.declared.engine.fault.EngineFault.TheVariants.{Server, Viewer as ViewerEnded}
use Rattle.rfb_session.specs.declared.engine.fault.EngineFault.TheVariants.{Truncated, Device, NoMemory}
use Rattle.rfb_session.specs.ViewerActs.{WasFed, EndsBy, ends_told}
use Rattle.rfb_session.specs.Playback.{most}
use Rattle.rfb_session.specs.FirstUpdates.{AreFewer}
use Rattle.rfb_session.specs.EngineRead.{AsksForScreen}

-- what a watcher hears: the handshake is done, of a screen of that size, with as much of its name as is kept; or an
-- update has ended, and this is the viewer
pub data Notice : Type 0 where
  Greeted : (width height : ℕ) → (name : List ℕ) → Notice
  Updated : (now : Viewer) → Notice

-- what a watcher may become when it hears something
abbrev pub Listening : Type 0 → Type 1
Listening A = A → Notice → A → Type 0

module _ {A : Type 0} where
  -- what it hears of an event, with its viewer after that: of others nothing
  abbrev pub Hears : Listening A → Option ViewerTold → Viewer → A → A → Type 0
  Hears steps None now old new = new ≡ old
  Hears steps (Some (Reply bytes)) now old new = new ≡ old
  Hears steps (Some (Ready bytes width height name name_length)) now old new =
      steps old (Greeted width height name) new
  Hears steps (Some UpdateDone) now old new = steps old (Updated now) new
  Hears steps (Some Bell) now old new = new ≡ old
  Hears steps (Some (CutText kept text_length)) now old new = new ≡ old
  Hears steps (Some ColourMapSkipped) now old new = new ≡ old

  -- calls that feed a viewer, and requests: the bytes that it was fed, how many updates ended, and how both are then.
  -- Its watcher hears of each call before the next
  pub data HearsAll (steps : Listening A) (first : Viewer) (old : A) :
      List ℕ → ℕ → Viewer → A → Type 0 where
    NoCall : HearsAll steps first old [] 0 first old
    NextCall : (fed bytes : List ℕ) (updates : ℕ) (event : Option ViewerTold) (mid last : Viewer)
        (between new : A) → HearsAll steps first old fed updates mid between →
        WasFed mid bytes event last → Hears steps event last between new →
        HearsAll steps first old (fed ++ bytes) (updates + ends_told event) last new
    NextRequest : (fed : List ℕ) (updates : ℕ) (incremental : Bool) (sent : List ℕ)
        (mid last : Viewer) (new : A) → HearsAll steps first old fed updates mid new →
        AsksForScreen incremental mid sent last → HearsAll steps first old fed updates last new

  -- of some bytes the first were fed, and then it ended so: by how many updates ended, the bytes after them, and the
  -- viewer as it was last
  pub record HearsOf (steps : Listening A) (Ends : ℕ → List ℕ → Viewer → Type 0) (first : Viewer)
      (old : A) (bytes : List ℕ) (new : A) : Type 0 where
    pub fed : List ℕ
    pub later : List ℕ
    pub updates : ℕ
    pub last : Viewer
    pub bytes_are : bytes ≡ fed ++ later
    pub hears : HearsAll steps first old fed updates last new
    pub ends : Ends updates later last

  -- the same of what was read
  abbrev pub HearsRead : Listening A → (ℕ → List ℕ → Viewer → Type 0) → Option (List ℕ) →
      Option (List ℕ) → Viewer → A → A → Type 0
  HearsRead steps Ends unread left first old new =
      (bytes : List ℕ) × Consumes unread left bytes × HearsOf steps Ends first old bytes new

-- ---- how it ended

-- a read that was played: unless enough updates ended it was fed whole, or else the viewer ended at
-- the bytes after those that it was fed
abbrev pub EndsRead : Option ℕ → ℕ → Result ℕ ViewerFault → Viewer → ℕ → List ℕ → Viewer → Type 0
EndsRead enough before (Ok told) new updates later last =
    (told ≡ min (before + updates) (2 ^ 64 - 1)) × (new ≡ last) × (AreFewer enough told → later ≡ [])
EndsRead enough before (Err fault) new updates later last = EndsBy fault last later new

-- playing: the answer is how many updates the watcher heard of; and where it is a fault, it heard of
-- all that the viewer was fed before
abbrev pub EndsPlaying : Option ℕ → Result ℕ EngineFault → Viewer → ℕ → List ℕ → Viewer → Type 0
EndsPlaying enough (Ok told) new updates later last =
    (told ≡ most updates) × (new ≡ last) × (AreFewer enough told → later ≡ [])
EndsPlaying enough (Err (ViewerEnded fault)) new updates later last = EndsBy fault last later new
EndsPlaying enough (Err Truncated) new updates later last = (new ≡ last) × (later ≡ [])
EndsPlaying enough (Err Device) new updates later last = (new ≡ last) × (later ≡ [])
EndsPlaying enough (Err (Server fault)) new updates later last = ⊥
EndsPlaying enough (Err NoMemory) new updates later last = ⊥

-- a read that was looked at, where so many updates were looked for
abbrev pub EndsLooking : ℕ → Result ℕ EngineFault → Viewer → ℕ → List ℕ → Viewer → Type 0
EndsLooking before (Ok left) new updates later last =
    (before ≡ updates + left) × (new ≡ last) × (0 < left → later ≡ [])
EndsLooking before (Err (ViewerEnded fault)) new updates later last = EndsBy fault last later new
EndsLooking before (Err Device) new updates later last = new ≡ last
EndsLooking before (Err Truncated) new updates later last = ⊥
EndsLooking before (Err (Server fault)) new updates later last = ⊥
EndsLooking before (Err NoMemory) new updates later last = ⊥

-- viewing
abbrev pub EndsViewing : ℕ → Result ℕ EngineFault → Viewer → ℕ → List ℕ → Viewer → Type 0
EndsViewing asked (Ok told) new updates later last = (asked ≡ updates) × (new ≡ last)
EndsViewing asked (Err (ViewerEnded fault)) new updates later last = EndsBy fault last later new
EndsViewing asked (Err Truncated) new updates later last =
    (updates < asked) × (new ≡ last) × (later ≡ [])
EndsViewing asked (Err Device) new updates later last = new ≡ last
EndsViewing asked (Err (Server fault)) new updates later last = ⊥
EndsViewing asked (Err NoMemory) new updates later last = ⊥

-- ---- one call

-- it was fed these bytes, and the update that they end, if they do, was counted after those before
abbrev pub HearsCounted : {A : Type 0} → Listening A → Viewer → A → List ℕ → ℕ → ℕ → Viewer → A →
    Type 0
HearsCounted steps first old bytes before told last new =
    (updates : ℕ) × (told ≡ min (before + updates) (2 ^ 64 - 1))
    × HearsAll steps first old bytes updates last new

-- the same, and counted down
abbrev pub HearsDown : {A : Type 0} → Listening A → Viewer → A → List ℕ → ℕ → ℕ → Viewer → A → Type 0
HearsDown steps first old bytes before left last new =
    (updates : ℕ) × (before ≡ updates + left) × HearsAll steps first old bytes updates last new
