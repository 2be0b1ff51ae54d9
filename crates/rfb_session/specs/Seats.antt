-- Sets of seats, a bit each: seat k is in a set where bit k is set.
use Rattle.std.specs.Prelude.{ℕ, suc, zero, ◌+◌, ◌-◌, List, [], ◌∷◌, cond}
use Rattle.rfb_picture.specs.Places.{has_bit}
use Rattle.rfb_session.specs.declared.seats.SeatsLeft.{SeatsLeft}

-- of the `count` seats from that one on, those that are in the set, in order
abbrev pub seats_from : ℕ → ℕ → ℕ → List ℕ
seats_from bits at zero = []
seats_from bits at (suc count) =
    cond (has_bit bits at) (at ∷ seats_from bits (at + 1) count) (seats_from bits (at + 1) count)

-- all that are
abbrev pub seats_in : ℕ → List ℕ
seats_in bits = seats_from bits 0 8

-- those that are left of it
abbrev pub seats_left : SeatsLeft → List ℕ
seats_left left = seats_from left.bits left.at (8 - left.at)
