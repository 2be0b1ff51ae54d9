-- What a script that is played writes, of either kind.
use Rattle.std.specs.Prelude.{◌≡◌, ◌⊎◌, ⊤, ℕ, List, Option, Some, IfSome}
use Rattle.std.specs.Io.KnownBytes.{Appends}
use Rattle.rfb_pixel.specs.declared.colour.Colour.{Colour}
use Rattle.rfb_picture.specs.Grid.{Grid}
use Rattle.rfb.specs.declared.fault.Failure.{Failure}
use Rattle.rfb.specs.declared.fault.Failure.TheVariants.{BadLine, Undone, Fault, Engine, Picture}
use Rattle.rfb_session.specs.declared.world.World.{World}
use Rattle.rfb_session.specs.World.{shown_by}
use Rattle.rfb.specs.declared.script.line.Numbered.{Numbered}
use Rattle.rfb_session.specs.declared.language.screen.Screen.{Screen as Size}
use Rattle.rfb.specs.declared.script.line.Wants.{Wants}
use Rattle.rfb.specs.declared.script.hub.hub_step.HubNumbered.{HubNumbered}
use Rattle.rfb.specs.ScriptRun.{IsPlayed}
use Rattle.rfb.specs.HubRun.{hub_events}
use Rattle.rfb.specs.HubScript.{AreHubScript, StopsReadingAny}
use Rattle.rfb_session.specs.declared.hub.Hub.{Hub}
use Rattle.rfb_session.specs.Hub.{shown_in}
use Rattle.rfb_session.specs.HubSteps.{HubPlayed}
use Rattle.rfb.specs.Script.{AreScript, StopsReading, lines_of}
use Rattle.rfb_session.specs.Devices.{AppendsBeginning}
use Rattle.rfb_session.specs.Pixmap.{pixmap}

-- a text is a script, and a world that its steps led to shows the picture that was written
pub record Plays (text : List ℕ) (picture : Grid Colour) : Type 0 where
  pub size : Size
  pub wants : Option Wants
  pub steps : List Numbered
  pub is_script : AreScript (lines_of text) size wants steps
  pub world : World
  pub is_played : IsPlayed size wants steps world
  pub is_shown : shown_by world ≡ Some picture

-- a text is a hub's script, and the viewer of the slot that its last line names shows the picture
-- in a hub that its steps led to
pub record PlaysHub (text : List ℕ) (picture : Grid Colour) : Type 0 where
  pub size : Size
  pub steps : List HubNumbered
  pub shown : ℕ
  pub is_script : AreHubScript (lines_of text) size steps shown
  pub hub : Hub
  pub is_played : HubPlayed size.width size.height (hub_events steps) hub
  pub is_shown : shown_in hub shown ≡ Some picture

-- a text is a script of either kind
abbrev pub PlaysAny : List ℕ → Grid Colour → Type 0
PlaysAny text picture = Plays text picture ⊎ PlaysHub text picture

-- this was written of what a world's viewer shows
abbrev pub ShowsTo : (List ℕ → Type 0) → World → Type 0
ShowsTo Writes world =
    (picture : Grid Colour) × (shown_by world ≡ Some picture) × Writes (pixmap picture)

-- the whole of it was written after what stood there before; or the output is as it was, or a
-- beginning was
abbrev pub WritesShown : World → Option (List ℕ) → Option (List ℕ) → Type 0
WritesShown world before after = ShowsTo (Appends before after) world

abbrev pub LeavesShown : World → Option (List ℕ) → Option (List ℕ) → Type 0
LeavesShown world before after = (after ≡ before) ⊎ ShowsTo (AppendsBeginning before after) world

-- the same of the world that steps lead to
abbrev pub PlayedTo : (List ℕ → Type 0) → Size → Option Wants → List Numbered → Type 0
PlayedTo Writes size wants steps =
    (world : World) × IsPlayed size wants steps world × ShowsTo Writes world

abbrev pub WritesPlayed : Size → Option Wants → List Numbered → Option (List ℕ) →
    Option (List ℕ) → Type 0
WritesPlayed size wants steps before after = PlayedTo (Appends before after) size wants steps

abbrev pub LeavesPlayed : Size → Option Wants → List Numbered → Option (List ℕ) →
    Option (List ℕ) → Type 0
LeavesPlayed size wants steps before after =
    (after ≡ before) ⊎ PlayedTo (AppendsBeginning before after) size wants steps

-- this was written of what a slot's viewer shows, and the same of the hub that steps lead to
abbrev pub ShowsSlotTo : (List ℕ → Type 0) → ℕ → Hub → Type 0
ShowsSlotTo Writes slot hub =
    (picture : Grid Colour) × (shown_in hub slot ≡ Some picture) × Writes (pixmap picture)

abbrev pub HubPlayedTo : (List ℕ → Type 0) → Size → List HubNumbered → ℕ → Type 0
HubPlayedTo Writes size steps shown =
    (hub : Hub) × HubPlayed size.width size.height (hub_events steps) hub
    × ShowsSlotTo Writes shown hub

-- what was read, where its bytes are known, is a script, and this was written of the picture that
-- it leads to
pub record PlaysScriptTo (Writes : List ℕ → Type 0) (read : Option (List ℕ)) : Type 0 where
  pub picture : Grid Colour
  pub played : IfSome read (λ text. PlaysAny text picture)
  pub written : Writes (pixmap picture)

-- the whole of it was; or the output is as it was, or a beginning was
abbrev pub PlaysScript : Option (List ℕ) → Option (List ℕ) → Option (List ℕ) → Type 0
PlaysScript read before after = PlaysScriptTo (Appends before after) read

abbrev pub LeavesScript : Option (List ℕ) → Option (List ℕ) → Option (List ℕ) → Type 0
LeavesScript read before after =
    (after ≡ before) ⊎ PlaysScriptTo (AppendsBeginning before after) read

-- a bad line that is reported is one at which reading stops
abbrev pub FailsIn : (List (List ℕ) → Failure → Type 0) → Option (List ℕ) → Failure → Type 0
FailsIn Stops read (BadLine n) = IfSome read (λ text. Stops (lines_of text) (BadLine n))
FailsIn Stops read (Undone n why) = ⊥
FailsIn Stops read (Fault fault) = ⊤
FailsIn Stops read (Engine fault) = ⊥
FailsIn Stops read (Picture flaw) = ⊥

-- it is the first one of what was read, and the first line says of which kind that is
abbrev pub FailsAtAny : Option (List ℕ) → Failure → Type 0
FailsAtAny read failure = FailsIn StopsReadingAny read failure

-- the same of a script that is no hub's
abbrev pub FailsAt : Option (List ℕ) → Failure → Type 0
FailsAt read failure = FailsIn StopsReading read failure
