use Rattle.std.proofs.Common.{◌≡◌, ℕ, ◌<◌, ◌+◌, ◌-◌, length, slice_index_or}
use Rattle.rfb_picture.proofs.picture.filling.fill_row.Given as goal

-- the places before `at` have the value
abbrev pub invariant-pieces : goal.invariant-pieces
invariant-pieces g l = record {
  filled : (k : ℕ) (d : g.row.T.Denot) → k < l.at → slice_index_or l.row k d ≡ l.fn.value;
  len : length l.row ≡ length l.fn.row;
  last : l.last + g.row.N ≡ length l.fn.row;
}

abbrev pub decreases-pieces : goal.decreases-pieces
decreases-pieces g l = l.last - l.at

-- the places so far have it
abbrev pub invariant-loop-place : goal.invariant-loop-place
invariant-loop-place g l =
    (k : ℕ) (d : g.row.T.Denot) → k < l.place-index → slice_index_or l.row k d ≡ l.value
