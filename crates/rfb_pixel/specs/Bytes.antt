-- Colours of three bytes each, red, green and blue, one after another.
use Rattle.std.specs.Prelude.{◌≡◌, ℕ, ◌+◌, ◌*◌, ◌<◌, List, length, slice_index, slice_index_or}
use Rattle.rfb_pixel.specs.declared.colour.Colour.{Colour}
use Rattle.rfb_pixel.specs.Format.{colour_of_bytes}

-- the colour with that number
abbrev pub byte_colour : List ℕ → ℕ → Colour
byte_colour bytes k =
    colour_of_bytes (slice_index bytes (3 * k)) (slice_index bytes (3 * k + 1))
    (slice_index bytes (3 * k + 2))

-- each colour of a list is that of its three bytes
abbrev pub AreOfBytes : List ℕ → List Colour → Type 0
AreOfBytes bytes colours =
    (k : ℕ) (d : Colour) → k < length colours → slice_index_or colours k d ≡ byte_colour bytes k
