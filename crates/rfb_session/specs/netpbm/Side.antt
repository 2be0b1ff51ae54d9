-- The sides of a picture.
use Rattle.std.specs.Prelude.{◌≤◌, ℕ}

-- a side has 1 to 4096 places, which is this project's bound
abbrev pub IsSide : ℕ → Type 0
IsSide n = (1 ≤ n) × (n ≤ 4096)
