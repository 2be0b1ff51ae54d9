-- Eight colours in three vectors, whose components follow one another.
use Rattle.std.specs.Prelude.{ℕ, ◌≡◌, ◌<◌, ◌*◌, ◌^◌, ◌==◌, if◌then◌else◌, drop, List, []}
use Rattle.std.specs.Prelude.{◌∷◌, slice_index, slice_index_or}
use Rattle.rfb_pixel.specs.declared.colour.Colour.{Colour}
use Rattle.rfb_pixel.specs.Format.{PixelFormat, pixel_of, pixel_number, colour_of, size_of, rgb888, rgb565, bgr233}

abbrev pub of_three : ℕ → ℕ → ℕ → Colour
of_three red green blue = record { r = red; g = green; b = blue }

-- the eight colours
abbrev pub colours_in : List ℕ → List ℕ → List ℕ → List Colour
colours_in x y z =
    of_three (slice_index x 0) (slice_index x 1) (slice_index x 2)
    ∷ of_three (slice_index x 3) (slice_index x 4) (slice_index x 5)
    ∷ of_three (slice_index x 6) (slice_index x 7) (slice_index y 0)
    ∷ of_three (slice_index y 1) (slice_index y 2) (slice_index y 3)
    ∷ of_three (slice_index y 4) (slice_index y 5) (slice_index y 6)
    ∷ of_three (slice_index y 7) (slice_index z 0) (slice_index z 1)
    ∷ of_three (slice_index z 2) (slice_index z 3) (slice_index z 4)
    ∷ of_three (slice_index z 5) (slice_index z 6) (slice_index z 7)
    ∷ []

-- the formats that have lanes, by number
abbrev pub laned : ℕ → PixelFormat
laned number = if number == 0 then rgb888 else (if number == 1 then rgb565 else bgr233)

-- the first pixels of a row are those of its colours, and fit the bytes of a pixel
abbrev pub ArePacked : PixelFormat → ℕ → List Colour → List ℕ → Type 0
ArePacked f n colours pixels =
    (k : ℕ) (d : Colour) → k < n →
    (slice_index pixels k ≡ pixel_of f (slice_index_or colours k d))
    × (slice_index pixels k < 2 ^ (8 * size_of f))

-- the first colours of a row are those of its pixels' bytes
abbrev pub AreUnpacked : PixelFormat → ℕ → List ℕ → List Colour → Type 0
AreUnpacked f n bytes colours =
    (k : ℕ) (d : Colour) → k < n →
    slice_index_or colours k d ≡ colour_of f (pixel_number f (drop (k * size_of f) bytes))
