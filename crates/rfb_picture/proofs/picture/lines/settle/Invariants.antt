-- The rows so far are in the lines of their numbers, and what the places show is as it was.
use Rattle.std.proofs.Common.{◌≡◌, ℕ, ◌<◌, length, slice_index_or}
use Rattle.rfb_picture.proofs.SettleLemmas.{Settling, misplaced}
use Rattle.rfb_picture.proofs.picture.lines.settle.Given as goal

abbrev pub invariant-loop-row : goal.invariant-loop-row
invariant-loop-row g l = record {
  settles : Settling l.width (length l.fn.lines) l.fn.lines l.lines l.fn.places l.places;
  rows : (i : ℕ) → i < l.row → slice_index_or l.lines i 0 ≡ i;
}

abbrev pub invariant-loop-line : goal.invariant-loop-line
invariant-loop-line g l = record {
  settles : Settling l.width (length l.fn.lines) l.fn.lines l.lines l.fn.places l.places;
  rows : (i : ℕ) → i < l.row → slice_index_or l.lines i 0 ≡ i;
}

abbrev pub decreases-loop-line : goal.decreases-loop-line
decreases-loop-line g l = misplaced (λ i. slice_index_or l.lines i 0) (length l.fn.lines)
