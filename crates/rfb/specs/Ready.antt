-- Which doors are ready.
use Rattle.std.specs.Prelude.{ℕ, Bool, false, List, Some, None, slice_get}

-- a door that is not there is never ready
abbrev pub is_ready : List Bool → ℕ → Bool
is_ready doors d = elim (slice_get doors d) [ None ↦ false | Some ready ↦ ready ]
