-- Recordings of a server that are played to a viewer.
use Rattle.std.specs.Prelude.{◌≡◌, ◌<◌, ◌⊎◌, ◌&&◌, ⊤, ℕ, Bool, true, false, List, [], ◌∷◌, Option, Some, None}
use Rattle.std.specs.Io.KnownBytes.{Appends}
use Rattle.rfb_pixel.specs.Format.{PixelFormat}
use Rattle.rfb_pixel.specs.declared.colour.Colour.{Colour}
use Rattle.rfb_picture.specs.Grid.{Grid}
use Rattle.rfb_wire.specs.declared.encoding.Encoding.{Encoding}
use Rattle.rfb_wire.specs.declared.encoding.Encoding.TheVariants.{Raw}
use Rattle.rfb_hello.specs.declared.version.Version.TheVariants.{V38}
use Rattle.rfb_viewer.specs.declared.viewer.Viewer.{Viewer}
use Rattle.rfb_viewer.specs.Viewer.{Viewing, first_viewer}
use Rattle.rfb_viewer.specs.Model.{StandsFor, picture_of, viewing_with}
use Rattle.rfb_session.specs.declared.engine.fault.EngineFault.{EngineFault}
use Rattle.rfb_session.specs.declared.engine.fault.EngineFault.TheVariants.{Server, Viewer as ViewerEnded, Truncated}
use Rattle.rfb_session.specs.declared.engine.fault.EngineFault.TheVariants.{Device, NoMemory}
use Rattle.rfb_session.specs.Devices.{AppendsBeginning}
use Rattle.rfb_session.specs.Playback.{AllPlayed, StopsPlaying}
use Rattle.rfb_session.specs.FirstUpdates.{PlayedFirst, StopsPlayingSome}
use Rattle.rfb_session.specs.ViewerActs.{StandsBetween}
use Rattle.rfb.specs.declared.fault.Failure.{Failure}
use Rattle.rfb.specs.declared.fault.Failure.TheVariants.{BadLine, Undone, Fault, Engine, Picture}
use Rattle.rfb.specs.declared.play.play_options.PlayOptions.{PlayOptions}
use Rattle.rfb_session.specs.Pixmap.{pixmap}

-- what a viewer of the program is made with
abbrev pub viewing_of : PixelFormat → List Encoding → Viewing
viewing_of format encodings = viewing_with format encodings V38 true 16777216 1024

-- it was fed nothing
abbrev pub IsFresh : PixelFormat → List Encoding → Viewer → Type 0
IsFresh format encodings viewer =
    StandsFor (viewing_of format encodings) viewer first_viewer []

-- a viewer was fed all that there was to read, if its bytes are known, and they end between two
-- messages
pub record WatchesAll (read : Option (List ℕ)) (old : Viewer) (told : ℕ) (new : Viewer)
    : Type 0 where
  pub left : Option (List ℕ)
  pub played : AllPlayed read left old told new
  pub between : StandsBetween new true

-- or why it was not
pub record StopsWatchingAll (read : Option (List ℕ)) (old : Viewer) (fault : EngineFault)
    (new : Viewer) : Type 0 where
  pub left : Option (List ℕ)
  pub failed : ℕ
  pub stopped : StopsPlaying read left 0 failed old fault new

-- it was fed the first bytes of what there was to read, up to the end of the `updates`-th update
pub record WatchesFirst (read : Option (List ℕ)) (old : Viewer) (updates : ℕ) (new : Viewer)
    : Type 0 where
  pub left : Option (List ℕ)
  pub played : PlayedFirst read left old updates new

-- `enough` updates ended, and it was fed no more; or fewer did, and it was fed all
abbrev pub WatchesSome : ℕ → Option (List ℕ) → Viewer → ℕ → Viewer → Type 0
WatchesSome enough read old told new =
    ((told ≡ enough) × WatchesFirst read old enough new)
    ⊎ ((told < enough) × WatchesAll read old told new)

-- or why it did not come so far
pub record StopsWatchingSome (enough : ℕ) (read : Option (List ℕ)) (old : Viewer)
    (fault : EngineFault) (new : Viewer) : Type 0 where
  pub left : Option (List ℕ)
  pub failed : ℕ
  pub stopped : StopsPlayingSome read left 0 failed old enough fault new

-- it was fed as much as is wanted: up to a number of updates, or all
abbrev pub Watches : Option ℕ → Option (List ℕ) → Viewer → ℕ → Viewer → Type 0
Watches None read old told new = WatchesAll read old told new
Watches (Some enough) read old told new = WatchesSome enough read old told new

-- or why it was not
abbrev pub StopsWatching : Option ℕ → Option (List ℕ) → Viewer → EngineFault → Viewer → Type 0
StopsWatching None read old fault new = StopsWatchingAll read old fault new
StopsWatching (Some enough) read old fault new = StopsWatchingSome enough read old fault new

-- the whole of what a viewer shows was written after what stood there before
abbrev pub WritesPicture : Viewer → Option (List ℕ) → Option (List ℕ) → Type 0
WritesPicture viewer before after =
    (picture : Grid Colour) × (picture_of viewer ≡ Some picture)
    × Appends before after (pixmap picture)

-- a beginning of that was
abbrev pub BeginsPicture : Viewer → Option (List ℕ) → Option (List ℕ) → Type 0
BeginsPicture viewer before after =
    (picture : Grid Colour) × (picture_of viewer ≡ Some picture)
    × AppendsBeginning before after (pixmap picture)

-- a fresh viewer was fed as much as is wanted of what was read, and this was written of what it
-- then shows
pub record PlaysTo (Writes : Viewer → Type 0) (options : PlayOptions) (read : Option (List ℕ))
    : Type 0 where
  pub first : Viewer
  pub fresh : IsFresh options.format (Raw ∷ []) first
  pub told : ℕ
  pub last : Viewer
  pub watches : Watches options.updates read first told last
  pub written : Writes last

-- the whole of it was
abbrev pub PlaysRecording : PlayOptions → Option (List ℕ) → Option (List ℕ) → Option (List ℕ) → Type 0
PlaysRecording options read before after =
    PlaysTo (λ viewer. WritesPicture viewer before after) options read

-- the bytes came to an end, and no viewer did
abbrev pub is_end : EngineFault → Bool
is_end Truncated = true
is_end Device = true
is_end (Server fault) = false
is_end (ViewerEnded fault) = false
is_end NoMemory = false

-- what came by then is shown
abbrev pub shows_end : Bool → EngineFault → Bool
shows_end is_wanted fault = is_wanted && is_end fault

-- a viewer has no picture, and nothing was written; or the whole of its picture was
abbrev pub MayWritePicture : Viewer → Option (List ℕ) → Option (List ℕ) → Type 0
MayWritePicture viewer before after =
    ((picture_of viewer ≡ None) × (after ≡ before)) ⊎ WritesPicture viewer before after

-- where an engine ended with a fault: at an early end, if that is wanted, what the viewer shows was
-- written; else nothing was
abbrev pub ShowsEnd : Bool → Viewer → EngineFault → Option (List ℕ) → Option (List ℕ) → Type 0
ShowsEnd is_wanted viewer fault before after =
    (shows_end is_wanted fault ≡ true → MayWritePicture viewer before after)
    × (shows_end is_wanted fault ≡ false → after ≡ before)

-- why the command ends then: for that fault, or since the picture could not be written
abbrev pub EndsShown : Bool → Viewer → EngineFault → Option (List ℕ) → Option (List ℕ) → Failure →
    Type 0
EndsShown is_wanted viewer fault before after (Engine told) =
    (told ≡ fault) × ShowsEnd is_wanted viewer fault before after
EndsShown is_wanted viewer fault before after (Fault own) =
    (shows_end is_wanted fault ≡ true) × BeginsPicture viewer before after
EndsShown is_wanted viewer fault before after (BadLine n) = ⊥
EndsShown is_wanted viewer fault before after (Undone n why) = ⊥
EndsShown is_wanted viewer fault before after (Picture flaw) = ⊥

-- a fresh viewer was fed what came by an early end, which is wanted, and a beginning of what it
-- then shows was written
pub record PlaysPart (options : PlayOptions) (read before after : Option (List ℕ)) (fault : EngineFault)
    : Type 0 where
  pub is_shown : shows_end options.is_partial fault ≡ true
  pub first : Viewer
  pub fresh : IsFresh options.format (Raw ∷ []) first
  pub last : Viewer
  pub stops : StopsWatching options.updates read first fault last
  pub begun : BeginsPicture last before after

-- the output is as it was, or a beginning was, also of what came by an early end
abbrev pub LeavesRecording : PlayOptions → Option (List ℕ) → Option (List ℕ) → Option (List ℕ) → Type 0
LeavesRecording options read before after =
    (after ≡ before) ⊎ PlaysTo (λ viewer. BeginsPicture viewer before after) options read
    ⊎ ((fault : EngineFault) × PlaysPart options read before after fault)

-- what a fresh viewer was fed ended it, or ended where it must not, and this much of what it then
-- shows was written
abbrev pub FailsToPlay : PlayOptions → Option (List ℕ) → Option (List ℕ) → Option (List ℕ) → Failure →
    Type 0
FailsToPlay options read before after (Engine fault) =
    (first last : Viewer) × IsFresh options.format (Raw ∷ []) first
    × StopsWatching options.updates read first fault last
    × ShowsEnd options.is_partial last fault before after
FailsToPlay options read before after (Fault fault) = ⊤
FailsToPlay options read before after (BadLine n) = ⊥
FailsToPlay options read before after (Undone n why) = ⊥
FailsToPlay options read before after (Picture flaw) = ⊥
