use Rattle.std.proofs.Common.{◌≡◌, ℕ, ◌*◌, ◌^◌, ◌<◌, map, slice_index}
use Rattle.rfb_pixel.specs.Format.{pixel_of, size_of}
use Rattle.rfb_pixel.proofs.format.rows.pack_other.Given as goal

abbrev pub invariant-loop-i : goal.invariant-loop-i
invariant-loop-i l = record {
  packed : (k : ℕ) → k < l.i →
      slice_index l.pixels k ≡ slice_index (map (pixel_of l.format) l.colours) k;
  bound : (k : ℕ) → k < l.i → slice_index l.pixels k < 2 ^ (8 * size_of l.format);
}
