-- A server's engine over a wire, in the order of its reads and writes: a read, then all that it asks
-- for is written, and only then the next read.
use Rattle.std.specs.Prelude.{◌≡◌, ℕ, ◌≤◌, ◌+◌, ◌-◌, ◌^◌, List, length, ◌⊎◌}
use Rattle.rfb_server.specs.declared.server.Server.{Server}
use Rattle.rfb_session.specs.declared.engine.fault.EngineFault.{EngineFault}
use Rattle.rfb_session.specs.declared.engine.fault.EngineFault.TheVariants.{Truncated, Device}
use Rattle.rfb_session.specs.Playback.{most}
use Rattle.rfb_session.specs.ServeEngine.{IsGreeting, StopsHearing, StopsUpdating}
use Rattle.rfb_session.specs.Turns.{Showing, IsAnsweredBy, IsTurn}
use Rattle.rfb_session.specs.Wire.{Came, Ended, Missed, Known, Stepping, Sends, SendsSome, by_steps}

-- the greeting was written, and nothing was read before that
pub record GreetsFirst {W : Type 0} (steps : Stepping W) (before : W) (old : Server)
    (After : W → Type 0) : Type 0 where
  pub greeting : List ℕ
  pub greeting_is : IsGreeting old greeting
  pub greeted : W
  pub wrote : Sends steps before greeted greeting
  pub goes_on : After greeted

module _ {W X : Type 0} where
  -- one read, whose bytes were heard and answered, and after which an update was composed and
  -- written, if one was due
  pub record TurnOver (steps : Stepping W) (shows : Showing X) (before : W) (old : Server) (scene : X)
      (updates : ℕ) (after : W) (new : Server) (last : X) : Type 0 where
    pub bytes : List ℕ
    pub came : W
    pub read : steps before (Came bytes) came
    pub turn : IsTurn (by_steps steps) shows old scene bytes came after updates new last

  -- so many turns, with so many updates, each from where the one before it left all
  pub data TurnsOver (steps : Stepping W) (shows : Showing X) (before : W) (old : Server) (scene : X)
      : ℕ → ℕ → W → Server → X → Type 0 where
    NoTurn : TurnsOver steps shows before old scene 0 0 before old scene
    NextTurn : (turns updates more : ℕ) (mid after : W) (between new : Server) (then last : X) →
        TurnsOver steps shows before old scene turns updates mid between then →
        TurnOver steps shows mid between then more after new last →
        TurnsOver steps shows before old scene (turns + 1) (updates + more) after new last

  -- turns, and then a read that found the end; or as many turns as there can be
  pub record TurnsToEnd (steps : Stepping W) (shows : Showing X) (before : W) (old : Server)
      (scene : X) (told : ℕ) (after : W) (new : Server) (last : X) : Type 0 where
    pub count : ℕ
    pub updates : ℕ
    pub told_is : told ≡ most updates
    pub mid : W
    pub turns : TurnsOver steps shows before old scene count updates mid new last
    pub ended : steps mid Ended after ⊎ ((2 ^ 64 - 1 ≤ count) × (after ≡ mid))

-- why a turn stops: its read failed; or it stopped while its bytes were heard. Or all of them were, and then there was
-- no memory for an update that was due, or one was not written whole
pub data StopsTurnOver {W : Type 0} (steps : Stepping W) (known : W → Known) (before : W)
    (old : Server) (fault : EngineFault) (after : W) (new : Server) : Type 0 where
  MissesRead : fault ≡ Device → steps before Missed after → new ≡ old →
      StopsTurnOver steps known before old fault after new
  StopsInHearing : (bytes : List ℕ) (came : W) → steps before (Came bytes) came →
      length bytes ≤ 4096 →
      StopsHearing (by_steps steps) old bytes came after (known came).failed_writes
      (known after).failed_writes fault new →
      StopsTurnOver steps known before old fault after new
  StopsInUpdating : (bytes : List ℕ) (came : W) → steps before (Came bytes) came →
      length bytes ≤ 4096 → (heard : Server) (answered : W) →
      IsAnsweredBy (by_steps steps) old bytes came answered heard →
      StopsUpdating (by_steps steps) heard answered after (known answered).failed_writes
      (known after).failed_writes fault new →
      StopsTurnOver steps known before old fault after new

module _ {W X : Type 0} where
  -- turns, and then one that stops
  pub record StopsAfterTurns (steps : Stepping W) (known : W → Known) (shows : Showing X) (before : W)
      (old : Server) (scene : X) (fault : EngineFault) (after : W) (new : Server) (last : X)
      : Type 0 where
    pub count : ℕ
    pub updates : ℕ
    pub mid : W
    pub between : Server
    pub turns : TurnsOver steps shows before old scene count updates mid between last
    pub stops : StopsTurnOver steps known mid between fault after new

  -- the greeting, and then turns to the end
  abbrev pub ServesInOrder : Stepping W → Showing X → W → Server → X → ℕ → W → Server → X → Type 0
  ServesInOrder steps shows before old scene told after new last =
      GreetsFirst steps before old (λ greeted.
      TurnsToEnd steps shows greeted old scene told after new last)

  -- it stops: the greeting was not written whole, and nothing was read; a turn stops; or the turns
  -- end too early
  pub data StopsInOrder (steps : Stepping W) (known : W → Known) (shows : Showing X) (before : W)
      (old : Server) (scene : X) (fault : EngineFault) (after : W) (new : Server) (last : X)
      : Type 0 where
    Ungreeted : fault ≡ Device → (greeting : List ℕ) → IsGreeting old greeting →
        SendsSome steps before after greeting → new ≡ old → last ≡ scene →
        StopsInOrder steps known shows before old scene fault after new last
    AfterTurns : GreetsFirst steps before old (λ greeted.
        StopsAfterTurns steps known shows greeted old scene fault after new last) →
        StopsInOrder steps known shows before old scene fault after new last
    AtTheEnd : fault ≡ Truncated → (told : ℕ) →
        ServesInOrder steps shows before old scene told after new last →
        StopsInOrder steps known shows before old scene fault after new last
