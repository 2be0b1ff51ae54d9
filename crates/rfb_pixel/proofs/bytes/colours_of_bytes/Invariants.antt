use Rattle.std.proofs.Common.{◌≡◌, ℕ, ◌+◌, ◌-◌, ◌<◌, ◌≤◌, length, slice_index_or}
use Rattle.rfb_pixel.specs.declared.colour.Colour.{Colour}
use Rattle.rfb_pixel.specs.Bytes.{byte_colour}
use Rattle.rfb_pixel.proofs.bytes.colours_of_bytes.Given as goal

abbrev pub invariant-loop-at : goal.invariant-loop-at
invariant-loop-at l = record {
  within : l.at ≤ length l.colours;
  last : l.last + 8 ≡ length l.colours;
  len : length l.colours ≡ length l.fn.colours;
  shown : (k : ℕ) (d : Colour) → k < l.at → slice_index_or l.colours k d ≡ byte_colour l.bytes k;
}

abbrev pub decreases-loop-at : goal.decreases-loop-at
decreases-loop-at l = l.last - l.at
