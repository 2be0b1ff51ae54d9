-- A colour as a pixel of rgb565.
use Rattle.std.proofs.Common.{◌≡◌, ◌∙◌, ℕ, ◌+◌, ◌*◌, ◌/◌, ◌%◌, ◌^◌, ◌<◌, ◌≤◌, sym, arith}
use Rattle.std.specs.Prelude.{bit_or}
use Rattle.std.proofs.lemmas.Nat.{or_shifted}
use Rattle.rfb_pixel.specs.declared.colour.Colour.{Colour}
use Rattle.rfb_pixel.specs.Channel.{rescaled}
use Rattle.rfb_pixel.specs.Format.{IsColour, pixel_of, rgb565}

-- a component in the upper five bits of a lane
five : (component : ℕ) → component ≤ 65535 →
    (component * 63489 % 4294967296 / 65536 + 1024) % 65536 / 2048 ≡ rescaled 65535 31 component
five component fits = omega (arith, fits)

joined : (r g b : ℕ) → r < 32 → g < 64 → b < 32 →
    ((r * 2048 % 65536 + g * 32 % 65536) % 65536 + b) % 65536 ≡ bit_or (bit_or (r * 2 ^ 11) (g * 2 ^ 5)) (b * 2 ^ 0)
joined r g b small_r small_g small_b =
    let two : bit_or (r * 2 ^ 11) (g * 2 ^ 5) ≡ (r * 64 + g) * 2 ^ 5 =
    or_shifted r 11 (g * 2 ^ 5) (omega (arith, small_g)) ∙ omega arith in
    let one : b * 2 ^ 0 ≡ b = omega arith in
    sym (rw (two, one) (or_shifted (r * 64 + g) 5 b small_b ∙ omega (arith, small_r, small_g, small_b)))

-- the number that the lanes of a colour make
abbrev pub lane : Colour → ℕ
lane c =
    (((c.r * 63489 % 4294967296 / 65536 + 1024) % 65536 / 2048 * 2048 % 65536
    + (c.g * 64513 % 4294967296 / 65536 + 512) % 65536 / 1024 * 32 % 65536) % 65536
    + (c.b * 63489 % 4294967296 / 65536 + 1024) % 65536 / 2048) % 65536

-- it is the pixel
pub packed : (c : Colour) → IsColour c → lane c ≡ pixel_of rgb565 c
packed c fits =
    let six : (c.g * 64513 % 4294967296 / 65536 + 512) % 65536 / 1024 ≡ rescaled 65535 63 c.g =
    omega (arith, fits.1) in
    rw (five c.r fits.0, six, five c.b fits.2)
    (joined (rescaled 65535 31 c.r) (rescaled 65535 63 c.g) (rescaled 65535 31 c.b) (omega (arith, fits.0))
    (omega (arith, fits.1)) (omega (arith, fits.2)))

-- a lane has sixteen bits
pub below_pixel : (n : ℕ) → n % 65536 < 2 ^ 16
below_pixel n = omega arith
