use Rattle.std.proofs.Common.{◌≡◌, ℕ, ◌*◌, ◌<◌, drop, slice_index_or}
use Rattle.rfb_pixel.specs.declared.colour.Colour.{Colour}
use Rattle.rfb_pixel.specs.Format.{colour_of, pixel_number, size_of}
use Rattle.rfb_pixel.proofs.format.rows.unpack_each.Given as goal

abbrev pub invariant-loop-k : goal.invariant-loop-k
invariant-loop-k l =
    (k : ℕ) (d : Colour) → k < l.k →
    slice_index_or l.colours k d ≡ colour_of l.format (pixel_number l.format (drop (k * size_of l.format) l.bytes))
