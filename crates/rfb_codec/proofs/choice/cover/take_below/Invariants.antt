use Rattle.std.proofs.Common.{◌≡◌, ℕ, ◌+◌, ◌*◌, ◌<◌, ◌≤◌, slice_index}
use Rattle.rfb_codec.specs.encoder.Cover.{AreTaken}
use Rattle.rfb_codec.proofs.choice.cover.take_below.Given as goal

abbrev pub invariant-loop-j : goal.invariant-loop-j
invariant-loop-j l = record {
  same : (i j : ℕ) → l.x ≤ i → i < l.right → l.y ≤ j → j < l.j →
      slice_index l.pixels (j * l.width + i) ≡ slice_index l.pixels (l.y * l.width + l.x);
  others : AreTaken l.x l.right (l.y + 1) l.j l.fn.rows l.rows;
}
