-- What a core wants of its doors, and which of them are done with.
use Rattle.std.specs.Prelude.{◌≡◌, ℕ, ◌<◌, Bool, List, [], Option, Some, None, length, IsTrue, ◌⊎◌}
use Rattle.rfb_session.specs.declared.doors.clock.Pause.{Pause}
use Rattle.rfb_session.specs.declared.doors.clock.Pause.TheVariants.{Until, Ready}

module _ {C K : Type 0} where
  -- a door is ready for what the core wants there: to be read where it has room, or to be written
  -- where something waits
  abbrev pub IsWanted : (C → ℕ → ℕ) → (C → ℕ → List ℕ) → (K → ℕ → Bool) → (K → ℕ → Bool) →
      C → K → ℕ → Type 0
  IsWanted space waiting readable writable core clock d =
      (IsTrue (readable clock d) × (0 < space core d))
      ⊎ (IsTrue (writable clock d) × (0 < length (waiting core d)))

-- the longest that a loop waits for a core that wants to be called then
abbrev pub longest : Option ℕ → Pause
longest None = Ready
longest (Some time) = Until time

module _ {C : Type 0} where
  -- a door may be closed, and nothing waits there
  abbrev pub IsOver : (C → ℕ → Bool) → (C → ℕ → List ℕ) → C → ℕ → Type 0
  IsOver closed waiting core d = IsTrue (closed core d) × (waiting core d ≡ [])
