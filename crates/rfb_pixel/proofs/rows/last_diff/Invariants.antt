use Rattle.std.proofs.Common.{◌≡◌, ℕ, ◌<◌, ◌≤◌, length, slice_index}
use Rattle.rfb_pixel.proofs.rows.last_diff.Given as goal

abbrev pub invariant-loop-end : goal.invariant-loop-end
invariant-loop-end l = record {
  within : l.end ≤ length l.a;
  same_after : (k : ℕ) → l.end ≤ k → k < length l.a → slice_index l.a k ≡ slice_index l.b k;
}

abbrev pub decreases-loop-end : goal.decreases-loop-end
decreases-loop-end l = l.end

abbrev pub invariant-loop-end-2 : goal.invariant-loop-end-2
invariant-loop-end-2 l = record {
  within : l.end ≤ length l.a;
  same_after : (k : ℕ) → l.end ≤ k → k < length l.a → slice_index l.a k ≡ slice_index l.b k;
}

abbrev pub decreases-loop-end-2 : goal.decreases-loop-end-2
decreases-loop-end-2 l = l.end
