-- A viewer's engine over a wire, in the order of its reads and writes: a read, then all that it asks
-- for is written, and only then the next read.
use Rattle.std.specs.Prelude.{◌≡◌, ℕ, ◌<◌, ◌≤◌, ◌+◌, ◌-◌, ◌^◌, List, Option, length, ◌⊎◌}
use Rattle.rfb_viewer.specs.declared.viewer.Viewer.{Viewer}
use Rattle.rfb_session.specs.declared.engine.fault.EngineFault.{EngineFault}
use Rattle.rfb_session.specs.declared.engine.fault.EngineFault.TheVariants.{Truncated, Device}
use Rattle.rfb_session.specs.EngineRead.{HasLooked, StopsLooking}
use Rattle.rfb_session.specs.Wire.{Came, Ended, Missed, Known, Stepping, by_steps}

module _ {W : Type 0} where
  -- one read of some bytes, which the viewer was fed. All that it answered was written, with the requests that were
  -- due. `left` updates were looked for, and `fewer` are then
  pub record LookOver (steps : Stepping W) (before : W) (blank : Option (List ℕ)) (old : Viewer)
      (left fewer : ℕ) (after : W) (copied : Option (List ℕ)) (new : Viewer) : Type 0 where
    pub bytes : List ℕ
    pub some : 0 < length bytes
    pub few : length bytes ≤ 32768
    pub came : W
    pub read : steps before (Came bytes) came
    pub looked : HasLooked (by_steps steps) old bytes left fewer came after blank copied new

  -- so many reads, each from where the one before it left all
  pub data LooksOver (steps : Stepping W) (before : W) (blank : Option (List ℕ)) (old : Viewer)
      (updates : ℕ) : ℕ → ℕ → W → Option (List ℕ) → Viewer → Type 0 where
    NoLook : LooksOver steps before blank old updates 0 updates before blank old
    NextLook : (count left fewer : ℕ) (mid after : W) (kept copied : Option (List ℕ))
        (between new : Viewer) →
        LooksOver steps before blank old updates count left mid kept between → 0 < left →
        LookOver steps mid kept between left fewer after copied new →
        LooksOver steps before blank old updates (count + 1) fewer after copied new

  -- reads, until no update is looked for any more
  abbrev pub ViewsInOrder : Stepping W → W → Option (List ℕ) → Viewer → ℕ → W → Option (List ℕ) →
      Viewer → Type 0
  ViewsInOrder steps before blank old updates after copied new =
      (count : ℕ) × LooksOver steps before blank old updates count 0 after copied new

-- why it stops there, after `count` reads: a read found the end or failed, or there were as many as there can be. Or
-- what a read gave could not be fed, kept or answered to the end. `failing` and `failed` count failures of what keeps
-- the bytes
pub data StopsLookOver {W : Type 0} (steps : Stepping W) (known : W → Known) (count : ℕ) (before : W)
    (blank : Option (List ℕ)) (failing : ℕ) (old : Viewer) (fault : EngineFault) (after : W)
    (copied : Option (List ℕ)) (failed : ℕ) (new : Viewer) : Type 0 where
  EndsTooEarly : fault ≡ Truncated →
      steps before Ended after ⊎ ((2 ^ 64 - 1 ≤ count) × (after ≡ before)) → copied ≡ blank →
      new ≡ old → StopsLookOver steps known count before blank failing old fault after copied failed new
  MissesLook : fault ≡ Device → steps before Missed after → copied ≡ blank → new ≡ old →
      StopsLookOver steps known count before blank failing old fault after copied failed new
  StopsInLooking : (bytes : List ℕ) (came : W) → steps before (Came bytes) came →
      length bytes ≤ 32768 →
      StopsLooking (by_steps steps) old bytes came after blank copied
      ((known came).failed_writes + failing) ((known after).failed_writes + failed) fault new →
      StopsLookOver steps known count before blank failing old fault after copied failed new

-- reads with all that they ask for, and then a stop
pub record StopsViewInOrder {W : Type 0} (steps : Stepping W) (known : W → Known) (before : W)
    (blank : Option (List ℕ)) (failing : ℕ) (old : Viewer) (updates : ℕ) (fault : EngineFault)
    (after : W) (copied : Option (List ℕ)) (failed : ℕ) (new : Viewer) : Type 0 where
  pub count : ℕ
  pub left : ℕ
  pub going : 0 < left
  pub mid : W
  pub kept : Option (List ℕ)
  pub between : Viewer
  pub looks : LooksOver steps before blank old updates count left mid kept between
  pub stops : StopsLookOver steps known count mid kept failing between fault after copied failed new
