-- Recorded bytes of a server that are played to a viewer.
use Rattle.std.specs.Prelude.{◌≡◌, ℕ, ◌<◌, ◌+◌, ◌-◌, ◌^◌, min, false, List, length}
use Rattle.std.specs.Prelude.{Option, Some}
use Rattle.std.specs.Io.KnownBytes.{Consumes, IsAtEnd}
use Rattle.rfb_viewer.specs.declared.fault.ViewerFault.{ViewerFault}
use Rattle.rfb_viewer.specs.declared.viewer.Viewer.{Viewer}
use Rattle.rfb_session.specs.declared.engine.fault.EngineFault.{EngineFault}
use Rattle.rfb_session.specs.declared.engine.fault.EngineFault.TheVariants.{Server, Viewer as ViewerEnded, Truncated}
use Rattle.rfb_session.specs.declared.engine.fault.EngineFault.TheVariants.{Device, NoMemory}
use Rattle.rfb_session.specs.ViewerActs.{ViewerRuns, EndsAfter, StandsBetween}

-- a count stays at the greatest 64-bit number
abbrev pub most : ℕ → ℕ
most n = min n (2 ^ 64 - 1)

-- the viewer was fed what was read
pub record Played (unread left : Option (List ℕ)) (old : Viewer) (updates : ℕ)
    (new : Viewer) : Type 0 where
  pub fed : List ℕ
  pub sent : List ℕ
  pub read : Consumes unread left fed
  pub runs : ViewerRuns old fed sent updates new

-- it was fed all that there was, if that is known and has fewer than 2 ^ 64 - 1 bytes
pub record AllPlayed (unread left : Option (List ℕ)) (old : Viewer) (told : ℕ)
    (new : Viewer) : Type 0 where
  pub updates : ℕ
  pub told_is : told ≡ most updates
  pub played : Played unread left old updates new
  pub ended : (bytes : List ℕ) → unread ≡ Some bytes → length bytes < 2 ^ 64 - 1 → IsAtEnd left

-- the viewer was fed the first bytes of what was read, and ended at the next ones
abbrev pub PlayedUntil : Option (List ℕ) → Option (List ℕ) → Viewer → ViewerFault → Viewer → Type 0
PlayedUntil unread left old fault new = EndsAfter (λ all. Consumes unread left all) old fault new

-- why it stops: the bytes ended where they must not; a read failed, which was counted; or the
-- viewer ended
abbrev pub StopsPlaying : Option (List ℕ) → Option (List ℕ) → ℕ → ℕ → Viewer → EngineFault →
    Viewer → Type 0
StopsPlaying unread left failed_before failed old Truncated new =
    (told : ℕ) × AllPlayed unread left old told new × StandsBetween new false
StopsPlaying unread left failed_before failed old Device new =
    (failed ≡ failed_before + 1) × (updates : ℕ) × Played unread left old updates new
StopsPlaying unread left failed_before failed old (ViewerEnded fault) new =
    PlayedUntil unread left old fault new
StopsPlaying unread left failed_before failed old (Server fault) new = ⊥
StopsPlaying unread left failed_before failed old NoMemory new = ⊥
