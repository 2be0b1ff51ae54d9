-- The first updates of a server's recorded bytes, played to a viewer.
use Rattle.std.specs.Prelude.{◌≡◌, ℕ, ◌<◌, ◌≤◌, ◌+◌, ◌-◌, ◌^◌, min, false, List, ◌++◌, Option, Some, None, ⊤}
use Rattle.std.specs.Io.KnownBytes.{Consumes}
use Rattle.rfb_viewer.specs.declared.viewer.Viewer.{Viewer}
use Rattle.rfb_viewer.specs.Told.{ViewerTold, UpdateDone}
use Rattle.rfb_session.specs.declared.engine.fault.EngineFault.{EngineFault}
use Rattle.rfb_session.specs.declared.engine.fault.EngineFault.TheVariants.{Server, Viewer as ViewerEnded, Truncated}
use Rattle.rfb_session.specs.declared.engine.fault.EngineFault.TheVariants.{Device, NoMemory}
use Rattle.rfb_session.specs.ViewerActs.{ViewerRuns, WasFed, StandsBetween, ends_told}
use Rattle.rfb_session.specs.Playback.{Played, AllPlayed, PlayedUntil, StopsPlaying}

-- it was fed these bytes, and the update that they end, if they do, was counted after those before
pub record WasCounted (old : Viewer) (bytes : List ℕ) (before told : ℕ) (new : Viewer)
    : Type 0 where
  pub event : Option ViewerTold
  pub fed : WasFed old bytes event new
  pub told_is : told ≡ min (before + ends_told event) (2 ^ 64 - 1)

-- of some bytes, for which `known` holds, the first were fed. The last of these end an update, and `counts` holds for
-- how many had ended before
pub record EndsAnUpdate (known : List ℕ → Type 0) (counts : ℕ → Type 0) (old new : Viewer) : Type 0 where
  pub fed : List ℕ
  pub ending : List ℕ
  pub later : List ℕ
  pub sent : List ℕ
  pub updates : ℕ
  pub mid : Viewer
  pub read : known ((fed ++ ending) ++ later)
  pub runs : ViewerRuns old fed sent updates mid
  pub ends : WasFed mid ending (Some UpdateDone) new
  pub enough_is : counts updates

-- so it is of these bytes, and with that update and those before there are enough
abbrev pub IsWatchedFirst : Viewer → List ℕ → ℕ → ℕ → Viewer → Type 0
IsWatchedFirst old bytes before enough new =
    EndsAnUpdate (λ all. bytes ≡ all) (λ updates. enough ≡ before + updates + 1) old new

-- the same of what was read
abbrev pub PlayedFirst : Option (List ℕ) → Option (List ℕ) → Viewer → ℕ → Viewer → Type 0
PlayedFirst unread left old enough new =
    EndsAnUpdate (λ all. Consumes unread left all) (λ updates. enough ≡ updates + 1) old new

-- why it stops: fewer updates ended, and then the bytes where they must not; a read failed, which
-- was counted; or the viewer ended
abbrev pub StopsPlayingSome : Option (List ℕ) → Option (List ℕ) → ℕ → ℕ → Viewer → ℕ → EngineFault →
    Viewer → Type 0
StopsPlayingSome unread left failed_before failed old enough Truncated new =
    (told : ℕ) × (told < enough) × AllPlayed unread left old told new × StandsBetween new false
StopsPlayingSome unread left failed_before failed old enough Device new =
    (failed ≡ failed_before + 1) × (updates : ℕ) × Played unread left old updates new
StopsPlayingSome unread left failed_before failed old enough (ViewerEnded fault) new =
    PlayedUntil unread left old fault new
StopsPlayingSome unread left failed_before failed old enough (Server fault) new = ⊥
StopsPlayingSome unread left failed_before failed old enough NoMemory new = ⊥

-- ---- all updates, or so many

-- they are fewer than are enough, at most as many, just as many, or at least; where no number is
-- given none are enough
abbrev pub AreFewer : Option ℕ → ℕ → Type 0
AreFewer None told = ⊤
AreFewer (Some enough) told = told < enough

abbrev pub AreNoMore : Option ℕ → ℕ → Type 0
AreNoMore None told = ⊤
AreNoMore (Some enough) told = told ≤ enough

abbrev pub AreEnough : Option ℕ → ℕ → Type 0
AreEnough None told = ⊥
AreEnough (Some enough) told = told ≡ enough

abbrev pub AreNoFewer : Option ℕ → ℕ → Type 0
AreNoFewer None told = ⊥
AreNoFewer (Some enough) told = enough ≤ told

-- why it stops
abbrev pub StopsPlayingUpTo : Option ℕ → Option (List ℕ) → Option (List ℕ) → ℕ → ℕ → Viewer →
    EngineFault → Viewer → Type 0
StopsPlayingUpTo None unread left failed_before failed old fault new =
    StopsPlaying unread left failed_before failed old fault new
StopsPlayingUpTo (Some enough) unread left failed_before failed old fault new =
    StopsPlayingSome unread left failed_before failed old enough fault new
