use Rattle.std.proofs.Common.{◌≡◌, ℕ, ◌-◌, ◌<◌, ◌≤◌, ◌==◌}
use Rattle.std.proofs.Common.{◌&&◌, not, nat_eq, nat_lt, length, slice_index}
use Rattle.std.specs.Int.{bit_at}
use Rattle.rfb_pixel.proofs.rows.others_in.Given as goal

-- the bits of the places so far are right, and no other is set
abbrev pub invariant-loop-at : goal.invariant-loop-at
invariant-loop-at l = record {
  within : l.at ≤ length l.row;
  told : (i : ℕ) → i < 64 →
      nat_eq (bit_at l.bits i) 1 ≡ (nat_lt i l.at && not (slice_index l.row i == l.pixel));
}

abbrev pub decreases-loop-at : goal.decreases-loop-at
decreases-loop-at l = length l.row - l.at

abbrev pub invariant-loop-place : goal.invariant-loop-place
invariant-loop-place l =
    (i : ℕ) → i < 64 → nat_eq (bit_at l.bits i) 1 ≡ (nat_lt i l.place && not (slice_index l.row i == l.pixel))
