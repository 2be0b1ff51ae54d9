-- A list of security types that comes in slices.
use Rattle.std.specs.Prelude.{ℕ, List}

-- those that have come, and how many come after the next one
pub record TypesSoFar : Type 0 where
  pub types : List ℕ
  pub more : ℕ
