-- A colour as a pixel of rgb888.
use Rattle.std.proofs.Common.{◌≡◌, ◌∙◌, ℕ, ◌+◌, ◌*◌, ◌/◌, ◌%◌, ◌^◌, ◌<◌, ◌≤◌, List, [], ◌∷◌, drop, take, length, sym}
use Rattle.std.proofs.Common.{refl, arith, length-drop}
use Rattle.std.specs.Prelude.{bit_or}
use Rattle.std.proofs.lemmas.Nat.{or_shifted}
use Rattle.std.proofs.lemmas.Simd.{below_from_Fits, get_or_wider}
use Rattle.byteorder.specs.Endian.{little_number}
use lib.Lanes.{Each1, digits_l, number_l}
use lib.ListN.{get_or}
use mir.Syntax.{w8}
use mir.Val.{Fits}
use Rattle.rfb_pixel.specs.declared.colour.Colour.{Colour}
use Rattle.rfb_pixel.specs.Channel.{rescaled}
use Rattle.rfb_pixel.specs.Format.{IsColour, pixel_of, rgb888}

-- a component's byte in a lane
abbrev pub byte : ℕ → ℕ
byte component = (component * 65281 % 4294967296 / 65536 + 128) % 65536 / 256

byte_is : (component : ℕ) → component ≤ 65535 → byte component ≡ rescaled 65535 255 component
byte_is component fits = omega (arith, fits)

small : (component : ℕ) → component ≤ 65535 → rescaled 65535 255 component < 256
small component fits = omega (arith, fits)

joined : (r g b : ℕ) → g < 256 → b < 256 →
    b + 256 * (g + 256 * (r + 256 * (0 + 256 * 0))) ≡ bit_or (bit_or (r * 2 ^ 16) (g * 2 ^ 8)) (b * 2 ^ 0)
joined r g b small_g small_b =
    let two : bit_or (r * 2 ^ 16) (g * 2 ^ 8) ≡ (r * 256 + g) * 2 ^ 8 =
    or_shifted r 16 (g * 2 ^ 8) (omega (arith, small_g)) ∙ omega arith in
    let one : b * 2 ^ 0 ≡ b = omega arith in
    sym (rw (two, one) (or_shifted (r * 256 + g) 8 b small_b ∙ omega arith))

-- the bytes of a colour, the lowest first, are its pixel
pub packed : (n : ℕ) (c : Colour) → IsColour c →
    n ≡ byte c.b + 256 * (byte c.g + 256 * (byte c.r + 256 * (0 + 256 * 0))) →
    n ≡ pixel_of rgb888 c
packed n c fits is =
    is ∙ rw (byte_is c.r fits.0, byte_is c.g fits.1, byte_is c.b fits.2)
    (joined (rescaled 65535 255 c.r) (rescaled 65535 255 c.g) (rescaled 65535 255 c.b)
    (small c.g fits.1) (small c.b fits.2))

-- four bytes as a number
four : (bytes : List ℕ) → 4 ≤ length bytes → number_l 256 (take 4 bytes) ≡ little_number 4 bytes
four [] long = absurd (omega arith)
four (a ∷ []) long = absurd (omega arith)
four (a ∷ b ∷ []) long = absurd (omega arith)
four (a ∷ b ∷ c ∷ []) long = absurd (omega arith)
four (a ∷ b ∷ c ∷ d ∷ bytes) long = omega arith

pub numbers : (bytes : List ℕ) → length bytes ≡ 32 → Each1 (Fits w8) bytes → (k : ℕ) → k < 8 →
    get_or (digits_l 4294967296 8 (number_l 256 bytes)) k 0 ≡ little_number 4 (drop (4 * k) bytes)
numbers bytes long fit k below =
    get_or_wider 256 4 4294967296 8 bytes k refl (below_from_Fits w8 bytes fit) below
    ∙ four (drop (4 * k) bytes) (omega (arith, length-drop (4 * k) bytes))
