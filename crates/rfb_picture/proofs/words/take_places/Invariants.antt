use Rattle.std.proofs.Common.{◌≡◌, ℕ, ◌<◌, ◌&&◌, not, nat_le, nat_lt}
use Rattle.rfb_picture.specs.layout.Plane.{has_at}
use Rattle.rfb_picture.proofs.words.take_places.Given as goal

-- the columns of words so far lost the other's bits
abbrev pub invariant-loop-column : goal.invariant-loop-column
invariant-loop-column l =
    (k y i : ℕ) → k < l.across → i < 64 →
    has_at l.words l.across y k i
    ≡ (has_at l.initial.words l.across y k i
    && not ((nat_lt k l.column && (nat_le l.top y && nat_lt y l.bottom)) && has_at l.other l.across y k i))
