-- A server's engine turn by turn: one read, whose bytes are heard and answered; and after it one
-- composing, and a drawing where an update was composed.
use Rattle.std.specs.Prelude.{◌≡◌, ℕ, zero, suc, ◌<◌, ◌≤◌, ◌+◌, List, [], ◌∷◌, ◌++◌, length, Option}
use Rattle.std.specs.Io.KnownBytes.{Appends, Consumes, Keeps, IsAtEnd}
use Rattle.rfb_pixel.specs.declared.colour.Colour.{Colour}
use Rattle.rfb_picture.specs.Grid.{Grid}
use Rattle.rfb_server.specs.declared.server.Server.{Server}
use Rattle.rfb_server.specs.Model.{Draws, screen_of}
use Rattle.rfb_server.specs.UpdateCall.{Updates, StaysUnsent}
use Rattle.rfb_session.specs.declared.engine.fault.EngineFault.{EngineFault}
use Rattle.rfb_session.specs.declared.engine.fault.EngineFault.TheVariants.{Truncated, Device}
use Rattle.rfb_session.specs.Devices.{AppendsBeginning}
use Rattle.rfb_session.specs.Playback.{most}
use Rattle.rfb_session.specs.ServeEngine.{Hears, IsGreeting, StopsHearing, StopsUpdating}
use Rattle.rfb_session.specs.Wire.{Writing, by_bytes}

-- ---- one turn

-- what a scene may do: how it is, a screen, the screen that it makes of it, and how the scene is
-- then
abbrev pub Showing : Type 0 → Type 1
Showing X = X → Grid Colour → Grid Colour → X → Type 0

module _ {D : Type 0} where
  -- it was fed these bytes, nothing else was done, and all answers were written
  pub record IsAnsweredBy (writing : Writing D) (old : Server) (bytes : List ℕ) (before after : D)
      (new : Server) : Type 0 where
    pub sent : List ℕ
    pub hears : Hears old bytes sent new
    pub wrote : writing.all before after sent

-- the same, by what is known of the bytes that were written
abbrev pub IsAnswered : Server → List ℕ → Option (List ℕ) → Option (List ℕ) → Server → Type 0
IsAnswered old bytes before after new = IsAnsweredBy by_bytes old bytes before after new

module _ {D X : Type 0} where
  -- an update was composed and written; and then the scene drew, once
  pub record UpdatesAndDraws (writing : Writing D) (shows : Showing X) (old : Server) (scene : X)
      (before after : D) (new : Server) (last : X) : Type 0 where
    pub bytes : List ℕ
    pub composed : Server
    pub updates : Updates old composed [] bytes
    pub wrote : writing.all before after bytes
    pub draws : Draws (screen_of new) composed new
    pub shown : shows scene (screen_of composed) (screen_of new) last

  -- none was due; nothing was written, and the scene did not draw
  pub record StaysIdle (writing : Writing D) (old : Server) (scene : X) (before after : D)
      (new : Server) (last : X) : Type 0 where
    pub unsent : StaysUnsent old new [] []
    pub wrote : writing.all before after []
    pub undrawn : last ≡ scene

  -- how a turn ends, by the number of its updates
  abbrev pub EndsTurn : Writing D → Showing X → Server → X → D → D → ℕ → Server → X → Type 0
  EndsTurn writing shows old scene before after zero new last =
      StaysIdle writing old scene before after new last
  EndsTurn writing shows old scene before after (suc zero) new last =
      UpdatesAndDraws writing shows old scene before after new last
  EndsTurn writing shows old scene before after (suc (suc more)) new last = ⊥

  -- a turn: what one read gave was heard and answered, and then came the end
  pub record IsTurn (writing : Writing D) (shows : Showing X) (old : Server) (scene : X)
      (bytes : List ℕ) (before after : D) (updates : ℕ) (new : Server) (last : X) : Type 0 where
    pub some : 0 < length bytes
    pub few : length bytes ≤ 4096
    pub heard : Server
    pub answered : D
    pub hears : IsAnsweredBy writing old bytes before answered heard
    pub ends : EndsTurn writing shows heard scene answered after updates new last

module _ {X : Type 0} where
  -- the same of the next bytes of a source
  pub record Turns (shows : Showing X) (unread left : Option (List ℕ)) (old : Server) (scene : X)
      (before after : Option (List ℕ)) (updates : ℕ) (new : Server) (last : X) : Type 0 where
    pub bytes : List ℕ
    pub read : Consumes unread left bytes
    pub turn : IsTurn by_bytes shows old scene bytes before after updates new last

  -- the source has ended, and nothing was done
  pub record TurnsNoMore (unread left : Option (List ℕ)) (old : Server) (scene : X)
      (before after : Option (List ℕ)) (new : Server) (last : X) : Type 0 where
    pub read : Consumes unread left []
    pub ended : IsAtEnd left
    pub unwritten : after ≡ before
    pub unheard : new ≡ old
    pub undrawn : last ≡ scene

-- why a turn stops; the scene does not draw in it. Its read failed; or it stopped while its bytes
-- were heard. Or all of them were, and then there was no memory for an update that was due, or one
-- was not written whole
pub data StopsTurn (unread left : Option (List ℕ)) (failing failed : ℕ)
    (before after : Option (List ℕ)) (stuck stopped : ℕ) (old : Server) (fault : EngineFault)
    (new : Server) : Type 0 where
  FailsToRead : fault ≡ Device → Keeps unread left → failed ≡ failing + 1 → after ≡ before →
      stopped ≡ stuck → new ≡ old →
      StopsTurn unread left failing failed before after stuck stopped old fault new
  FailsToHear : (bytes : List ℕ) → Consumes unread left bytes → length bytes ≤ 4096 →
      failed ≡ failing → StopsHearing by_bytes old bytes before after stuck stopped fault new →
      StopsTurn unread left failing failed before after stuck stopped old fault new
  FailsToUpdate : (bytes : List ℕ) → Consumes unread left bytes → length bytes ≤ 4096 →
      failed ≡ failing → (heard : Server) → (answered : Option (List ℕ)) →
      IsAnswered old bytes before answered heard →
      StopsUpdating by_bytes heard answered after stuck stopped fault new →
      StopsTurn unread left failing failed before after stuck stopped old fault new

-- ---- all turns

-- what was read, by reads, the latest first
abbrev pub read_in : List (List ℕ) → List ℕ
read_in [] = []
read_in (bytes ∷ reads) = read_in reads ++ bytes

module _ {X : Type 0} where
  -- a turn for each of these reads, each after all that the turn before it wrote
  abbrev pub AreTurns : Showing X → Server → X → Option (List ℕ) → List (List ℕ) → ℕ → Server → X →
      Option (List ℕ) → Type 0
  AreTurns shows old scene before [] updates now last after =
      (updates ≡ 0) × (now ≡ old) × (last ≡ scene) × (after ≡ before)
  AreTurns shows old scene before (bytes ∷ reads) updates now last after =
      (mid : Server) × (mid_scene : X) × (written : Option (List ℕ)) × (fewer : ℕ) × (more : ℕ)
      × AreTurns shows old scene before reads fewer mid mid_scene written
      × IsTurn by_bytes shows mid mid_scene bytes written after more now last
      × (updates ≡ fewer + more)

  -- turns over all that was read
  pub record TakesTurns (shows : Showing X) (unread left before after : Option (List ℕ))
      (old : Server) (scene : X) (told : ℕ) (new : Server) (last : X) : Type 0 where
    pub reads : List (List ℕ)
    pub updates : ℕ
    pub told_is : told ≡ most updates
    pub read : Consumes unread left (read_in reads)
    pub turns : AreTurns shows old scene before reads updates new last after

  -- turns, and then one that stops
  pub record StopsInTurn (shows : Showing X) (unread left : Option (List ℕ)) (failing failed : ℕ)
      (before after : Option (List ℕ)) (stuck stopped : ℕ) (old : Server) (scene : X)
      (fault : EngineFault) (new : Server) (last : X) : Type 0 where
    pub mid : Server
    pub unread_then : Option (List ℕ)
    pub written : Option (List ℕ)
    pub told : ℕ
    pub turns : TakesTurns shows unread unread_then before written old scene told mid last
    pub stops : StopsTurn unread_then left failing failed written after stuck stopped mid fault new

  -- the greeting was written, and then turns were taken
  pub record GreetsAndTurns (shows : Showing X) (unread left before after : Option (List ℕ))
      (old : Server) (scene : X) (told : ℕ) (new : Server) (last : X) : Type 0 where
    pub greeting : List ℕ
    pub greeting_is : IsGreeting old greeting
    pub greeted : Option (List ℕ)
    pub wrote : Appends before greeted greeting
    pub turns : TakesTurns shows unread left greeted after old scene told new last

  -- it stops: the greeting was not written whole; a turn stops; or the turns end too early
  pub data StopsByTurns (shows : Showing X) (unread left : Option (List ℕ)) (failing failed : ℕ)
      (before after : Option (List ℕ)) (stuck stopped : ℕ) (old : Server) (scene : X)
      (fault : EngineFault) (new : Server) (last : X) : Type 0 where
    Unheard : fault ≡ Device → (greeting : List ℕ) → IsGreeting old greeting →
        AppendsBeginning before after greeting → left ≡ unread → new ≡ old → last ≡ scene →
        StopsByTurns shows unread left failing failed before after stuck stopped old scene fault
        new last
    InTurn : (greeting : List ℕ) → IsGreeting old greeting → (greeted : Option (List ℕ)) →
        Appends before greeted greeting →
        StopsInTurn shows unread left failing failed greeted after stuck stopped old scene fault
        new last →
        StopsByTurns shows unread left failing failed before after stuck stopped old scene fault
        new last
    TooEarly : fault ≡ Truncated → (told : ℕ) →
        GreetsAndTurns shows unread left before after old scene told new last →
        StopsByTurns shows unread left failing failed before after stuck stopped old scene fault
        new last
