-- The places of a portable pixmap: row after row from the top, each from the left, and of each the
-- red, the green and the blue.
use Rattle.std.specs.Prelude.{◌≡◌, ◌<◌, ◌+◌, ◌*◌, ◌⊎◌, ⊤, ℕ, List, [], ◌∷◌, length}
use Rattle.rfb_pixel.specs.declared.colour.Colour.{Colour}
use Rattle.rfb_pixel.specs.Format.{colour_of_bytes}
use Rattle.rfb_session.specs.declared.netpbm.fault.Flaw.{Flaw}
use Rattle.rfb_session.specs.declared.netpbm.fault.Flaw.TheVariants.{TooShort, TooLong}
use Rattle.rfb_session.specs.declared.netpbm.head.Sample.{Sample}
use Rattle.rfb_session.specs.declared.netpbm.head.Sample.TheVariants.{Byte, Word}

-- how many bytes a place has
abbrev pub size_of : Sample → ℕ
size_of Byte = 3
size_of Word = 6

-- a component of two bytes, the most significant first
abbrev pub word_of : ℕ → ℕ → ℕ
word_of high low = 256 * high + low

-- the colours of places with a byte a component; a component is 257 times its byte
abbrev pub colours_of_bytes : List ℕ → List Colour
colours_of_bytes (r ∷ g ∷ b ∷ more) = colour_of_bytes r g b ∷ colours_of_bytes more
colours_of_bytes _ = []

-- and of places with two
abbrev pub colours_of_words : List ℕ → List Colour
colours_of_words (r ∷ r0 ∷ g ∷ g0 ∷ b ∷ b0 ∷ more) =
    record { r = word_of r r0; g = word_of g g0; b = word_of b b0 } ∷ colours_of_words more
colours_of_words _ = []

abbrev pub colours_of : Sample → List ℕ → List Colour
colours_of Byte bytes = colours_of_bytes bytes
colours_of Word bytes = colours_of_words bytes

-- bytes are those of `count` places with these colours
abbrev pub ArePlaces : Sample → ℕ → List ℕ → List Colour → Type 0
ArePlaces sample count bytes colours =
    (length bytes ≡ size_of sample * count) × (colours ≡ colours_of sample bytes)

-- they are too few, or too many
abbrev pub HasPlacesFlaw : Sample → ℕ → List ℕ → Flaw → Type 0
HasPlacesFlaw sample count bytes flaw =
    ((flaw ≡ TooShort) × (length bytes < size_of sample * count))
    ⊎ ((flaw ≡ TooLong) × (size_of sample * count < length bytes))

-- a component has 16 bits
pub record IsColour (c : Colour) : Type 0 where
  pub red : c.r < 65536
  pub green : c.g < 65536
  pub blue : c.b < 65536

abbrev pub AreColours : List Colour → Type 0
AreColours [] = ⊤
AreColours (c ∷ cs) = IsColour c × AreColours cs
