-- A colour as a pixel of bgr233.
use Rattle.std.proofs.Common.{◌≡◌, ◌∙◌, ℕ, ◌+◌, ◌*◌, ◌/◌, ◌%◌, ◌^◌, ◌<◌, ◌≤◌, sym, arith}
use Rattle.std.specs.Prelude.{bit_or}
use Rattle.std.specs.Int.Bits.{or_shifted_r}
use Rattle.rfb_pixel.specs.declared.colour.Colour.{Colour}
use Rattle.rfb_pixel.specs.Channel.{rescaled}
use Rattle.rfb_pixel.specs.Format.{IsColour, pixel_of, bgr233}

-- a component in the upper three bits of a lane
three : (component : ℕ) → component ≤ 65535 →
    (component * 57345 % 4294967296 / 65536 + 4096) % 65536 / 8192 ≡ rescaled 65535 7 component
three component fits = omega (arith, fits)

joined : (r g b : ℕ) → r < 8 → g < 8 → b < 4 →
    ((r + g * 8 % 65536) % 65536 + b * 64 % 65536) % 65536 ≡ bit_or (bit_or (r * 2 ^ 0) (g * 2 ^ 3)) (b * 2 ^ 6)
joined r g b small_r small_g small_b =
    let one : r * 2 ^ 0 ≡ r = omega arith in
    let two : bit_or r (g * 2 ^ 3) ≡ g * 8 + r = or_shifted_r g 3 r small_r ∙ omega arith in
    sym (rw (one, two) (or_shifted_r b 6 (g * 8 + r) (omega (arith, small_r, small_g))
    ∙ omega (arith, small_r, small_g, small_b)))

-- the number that the lanes of a colour make
abbrev pub lane : Colour → ℕ
lane c =
    (((c.r * 57345 % 4294967296 / 65536 + 4096) % 65536 / 8192
    + (c.g * 57345 % 4294967296 / 65536 + 4096) % 65536 / 8192 * 8 % 65536) % 65536
    + (c.b * 49153 % 4294967296 / 65536 + 8192) % 65536 / 16384 * 64 % 65536) % 65536

-- it is the pixel
pub packed : (c : Colour) → IsColour c → lane c ≡ pixel_of bgr233 c
packed c fits =
    let two : (c.b * 49153 % 4294967296 / 65536 + 8192) % 65536 / 16384 ≡ rescaled 65535 3 c.b =
    omega (arith, fits.2) in
    rw (three c.r fits.0, three c.g fits.1, two)
    (joined (rescaled 65535 7 c.r) (rescaled 65535 7 c.g) (rescaled 65535 3 c.b) (omega (arith, fits.0))
    (omega (arith, fits.1)) (omega (arith, fits.2)))

-- fields of three, three and two bits make a byte
pub below_pixel : (r g b : ℕ) →
    ((r % 65536 / 8192 + g % 65536 / 8192 * 8 % 65536) % 65536 + b % 65536 / 16384 * 64 % 65536) % 65536 < 2 ^ 8
below_pixel r g b = omega arith
