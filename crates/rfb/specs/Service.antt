-- Connections that are served with the test scene or with a picture, and the lines that say how they
-- ended.
use Rattle.std.specs.Prelude.{◌≡◌, ◌≤◌, ◌⊎◌, ℕ, zero, suc, true, List, [], ◌∷◌, ◌++◌, ⊤, Option, Some, None, Result, Ok}
use Rattle.std.specs.Prelude.{Err, codes}
use Rattle.std.specs.Fmt.{decimal}
use Rattle.std.specs.Io.KnownBytes.{Appends}
use Rattle.rfb_server.specs.declared.server.Server.{Server}
use Rattle.rfb_session.specs.declared.engine.fault.EngineFault.{EngineFault}
use Rattle.rfb_session.specs.declared.engine.fault.EngineFault.TheVariants.{Device, NoMemory}
use Rattle.rfb_session.specs.Devices.{AppendsBeginning}
use Rattle.rfb_session.specs.ServeEngine.{AllServed, GoesOn, ServerBetween, StopsServing}
use Rattle.rfb_picture.specs.Grid.{Grid}
use Rattle.rfb_pixel.specs.declared.colour.Colour.{Colour}
use Rattle.rfb_session.specs.declared.netpbm.fault.PixmapError.{PixmapError}
use Rattle.rfb_session.specs.declared.netpbm.fault.PixmapError.TheVariants.{Flaw as FlawError, Input}
use Rattle.rfb_session.specs.declared.netpbm.fault.PixmapError.TheVariants.{NoMemory as NoMemoryError}
use Rattle.rfb_session.specs.declared.netpbm.Pixmap.{Pixmap}
use Rattle.rfb_session.specs.netpbm.File.{HasFlaw, SpellsKnown, picture_of}
use Rattle.rfb_server.specs.Server.{first_server}
use Rattle.rfb_server.specs.Model.{StandsFor, with_screen}
use Rattle.rfb.specs.declared.fault.Fault.{Fault as FaultOf}
use Rattle.rfb.specs.declared.fault.Fault.TheVariants.{NoMemory as OutOfMemory}
use Rattle.rfb.specs.declared.fault.Failure.{Failure}
use Rattle.rfb.specs.declared.fault.Failure.TheVariants.{BadLine, Undone, Fault, Engine, Picture as PictureFailure}
use Rattle.rfb_session.specs.declared.language.screen.Screen.{Screen as Size}
use Rattle.rfb.specs.declared.serving.serve_words.ScreenChoice.{ScreenChoice}
use Rattle.rfb.specs.declared.serving.serve_words.ScreenChoice.TheVariants.{Scene as SceneAsked}
use Rattle.rfb.specs.declared.serving.serve_words.ScreenChoice.TheVariants.{Picture as PictureAsked}
use Rattle.rfb.specs.declared.serving.serve_words.ServeOptions.{ServeOptions}
use Rattle.rfb.specs.declared.serving.screen.ServedScreen.{ServedScreen}
use Rattle.rfb.specs.declared.serving.screen.ServedScreen.TheVariants.{Scene, Picture}
use Rattle.rfb.specs.ScriptRun.{serving_of}
use Rattle.rfb.specs.Scene.{ShowsScene}

-- ---- the first screen

-- a server was fed nothing, and its screen shows a picture
abbrev pub ShowsPicture : Grid Colour → Server → Type 0
ShowsPicture picture server =
    (size : Size) × (size.width ≡ picture.width) × (size.height ≡ picture.height)
    × StandsFor (serving_of size) server (with_screen picture (first_server (serving_of size))) []

-- the same of the test scene, or of what a pixmap spells
abbrev pub ShowsFirst : ServedScreen → Server → Type 0
ShowsFirst (Scene size) server = ShowsScene size server
ShowsFirst (Picture pixmap) server = ShowsPicture (picture_of pixmap) server

-- ---- one connection

-- how a connection ended: with the number of its updates, or by a fault
abbrev pub End : Type 0
End = Result ℕ EngineFault

-- a server was fed all that there was to read, which ends between two messages; it composed
-- `updates` updates, and all that it sent was written
pub record ServesAll (read written : Option (List ℕ)) (first : Server) (updates : ℕ)
    : Type 0 where
  pub left : Option (List ℕ)
  pub after : Option (List ℕ)
  pub last : Server
  pub served : GoesOn (λ front. AllServed read left written after front first updates last) first
  pub between : ServerBetween last true

-- or why it was not
pub record StopsEarly (read written : Option (List ℕ)) (first : Server) (fault : EngineFault)
    : Type 0 where
  pub left : Option (List ℕ)
  pub after : Option (List ℕ)
  pub failed : ℕ
  pub stopped : ℕ
  pub last : Server
  pub stops : GoesOn (λ front. StopsServing read left 0 failed written after 0 stopped
      front first fault last) first

-- a server was served so, or there was no memory for its scene
abbrev pub IsServedFrom : Option (List ℕ) → Option (List ℕ) → Server → End → Type 0
IsServedFrom read written first (Ok updates) = ServesAll read written first updates
IsServedFrom read written first (Err fault) = StopsEarly read written first fault

-- a reader and a writer were served by a server that was fed nothing before, and whose screen showed
-- the scene or the picture; or there was no memory for that
abbrev pub IsServed : ServedScreen → Option (List ℕ) → Option (List ℕ) → End → Type 0
IsServed screen read written end =
    ((first : Server) × ShowsFirst screen first × IsServedFrom read written first end)
    ⊎ (end ≡ Err NoMemory)

-- a connection of whose bytes nothing is known was served so; or there was none
abbrev pub IsServedSome : ServedScreen → End → Type 0
IsServedSome screen end =
    ((read written : Option (List ℕ)) × IsServed screen read written end) ⊎ (end ≡ Err Device)

-- ---- lines

-- a line says how many updates were sent, or has a text for the fault
abbrev pub IsLineOf : End → List ℕ → Type 0
IsLineOf (Ok updates) line = line ≡ codes "ok " ++ decimal updates ++ 10 ∷ []
IsLineOf (Err fault) line = (text : List ℕ) × (line ≡ codes "fault " ++ text ++ 10 ∷ [])

-- a text has a line for each of a number of connections, in their order, that says how it ended
abbrev pub TellsEnds : ServedScreen → ℕ → List ℕ → Type 0
TellsEnds screen zero text = text ≡ []
TellsEnds screen (suc n) text =
    (before line : List ℕ) × (end : End) × TellsEnds screen n before
    × IsServedSome screen end × IsLineOf end line × (text ≡ before ++ line)

-- the lines of `connections` connections follow what was written before
abbrev pub ServesSo : ServedScreen → ℕ → Option (List ℕ) → Option (List ℕ) → Type 0
ServesSo screen connections before after =
    (text : List ℕ) × TellsEnds screen connections text × Appends before after text

-- a beginning of the lines of at most `connections` connections does
abbrev pub ServesFewer : ServedScreen → ℕ → Option (List ℕ) → Option (List ℕ) → Type 0
ServesFewer screen connections before after =
    (n : ℕ) × (n ≤ connections) × (text : List ℕ) × TellsEnds screen n text
    × AppendsBeginning before after text

-- ---- what is asked for

-- a picture is served that the bytes of a file spell; of its bytes nothing is known
abbrev pub ServesSpelled : (ServedScreen → Type 0) → Type 0
ServesSpelled Serves =
    (bytes : Option (List ℕ)) × (pixmap : Pixmap) × SpellsKnown bytes (picture_of pixmap)
    × Serves (Picture pixmap)

-- the scene is, or the picture of the file that is named
abbrev pub ServesWith : (ServedScreen → Type 0) → ScreenChoice → Type 0
ServesWith Serves (SceneAsked size) = Serves (Scene size)
ServesWith Serves (PictureAsked path) = ServesSpelled Serves

-- as many connections were as are asked for; or nothing was written, or a beginning of the lines of
-- at most as many
abbrev pub ServesAsked : ServeOptions → Option (List ℕ) → Option (List ℕ) → Type 0
ServesAsked options before after =
    ServesWith (λ screen. ServesSo screen options.connections before after) options.screen

abbrev pub LeavesServed : ServeOptions → Option (List ℕ) → Option (List ℕ) → Type 0
LeavesServed options before after =
    (after ≡ before)
    ⊎ ServesWith (λ screen. ServesFewer screen options.connections before after) options.screen

-- ---- why it fails

-- by a fault, or by the picture
abbrev pub FailsToServe : Failure → Type 0
FailsToServe (Fault fault) = ⊤
FailsToServe (PictureFailure flaw) = ⊤
FailsToServe (BadLine n) = ⊥
FailsToServe (Undone n why) = ⊥
FailsToServe (Engine fault) = ⊥

-- what an error of a pixmap's is to the program
abbrev pub FailsAs : PixmapError → Failure → Type 0
FailsAs (FlawError flaw) failure = failure ≡ PictureFailure flaw
FailsAs (Input error) failure = (fault : FaultOf) × (failure ≡ Fault fault)
FailsAs NoMemoryError failure = failure ≡ Fault OutOfMemory

-- a flaw is one of what was read, where its bytes are known
abbrev pub FailsToRead : Option (List ℕ) → Failure → Type 0
FailsToRead (Some bytes) (PictureFailure flaw) = HasFlaw bytes flaw
FailsToRead None (PictureFailure flaw) = ⊤
FailsToRead read (Fault fault) = ⊤
FailsToRead read (BadLine n) = ⊥
FailsToRead read (Undone n why) = ⊥
FailsToRead read (Engine fault) = ⊥
