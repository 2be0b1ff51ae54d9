use Rattle.std.proofs.Common.{◌≡◌, ℕ, ◌<◌, slice_index_or}
use Rattle.rfb_pixel.specs.declared.colour.Colour.{Colour}
use Rattle.rfb_pixel.specs.Bytes.{byte_colour}
use Rattle.rfb_pixel.proofs.bytes.widen_each.Given as goal

abbrev pub invariant-loop-k : goal.invariant-loop-k
invariant-loop-k l =
    (k : ℕ) (d : Colour) → k < l.k → slice_index_or l.colours k d ≡ byte_colour l.bytes k
