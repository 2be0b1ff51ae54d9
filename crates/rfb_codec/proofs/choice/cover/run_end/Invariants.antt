use Rattle.std.proofs.Common.{◌≡◌, ℕ, ◌+◌, ◌*◌, ◌<◌, ◌≤◌, true, slice_index}
use Rattle.rfb_picture.specs.Places.{has_bit}
use Rattle.rfb_codec.proofs.choice.cover.run_end.Given as goal

abbrev pub invariant-loop-i : goal.invariant-loop-i
invariant-loop-i l = record {
  run : (k : ℕ) → l.x ≤ k → k < l.i →
      slice_index l.pixels (l.y * l.width + k) ≡ slice_index l.pixels (l.y * l.width + l.x);
  free : (k : ℕ) → l.x ≤ k → k < l.i → has_bit l.left k ≡ true;
}
