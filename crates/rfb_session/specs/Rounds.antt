-- The order in which the eight seats come, going round.
use Rattle.std.specs.Prelude.{ℕ, ◌+◌, ◌-◌, nat_lt, Bool, false, cond, Option, Some, None}

-- the seat that comes so many places after another
abbrev pub seat_after : ℕ → ℕ → ℕ
seat_after seat count = cond (nat_lt (seat + count) 8) (seat + count) (seat + count - 8)

-- how many seats come before one where the seat `first` begins
abbrev pub seats_before : ℕ → ℕ → ℕ
seats_before first k = cond (nat_lt k first) (k + 8 - first) (k - first)

-- who begins in the next round, where this one was ended by the seat `last`, if by any
abbrev pub first_after : ℕ → Option ℕ → ℕ
first_after first None = first
first_after first (Some last) = seat_after last 1

-- a seat comes after the one that ended the round
abbrev pub is_left : ℕ → Option ℕ → ℕ → Bool
is_left first None k = false
is_left first (Some last) k = nat_lt (seats_before first last) (seats_before first k)
