-- Laws of pixel formats.
use Rattle.std.proofs.Common.{◌≡◌, ℕ, ◌+◌, ◌-◌, ◌*◌, ◌/◌, ◌%◌, ◌^◌, ◌<◌, ◌≤◌, List, [], ◌∷◌, ◌++◌, Bool, true, false}
use Rattle.std.proofs.Common.{cond, if◌then◌else◌, length, take, set, arith, refl, ap, ◌∙◌, sym, append-nil}
use Rattle.std.specs.Prelude.{bit_and, bit_or, max}
use Rattle.std.specs.Int.{bit_at}
use Rattle.std.proofs.Math.Nat.{div-one, mul-le-mul_right}
use Rattle.std.proofs.Math.Pow.{pow_mono}
use Rattle.std.proofs.lemmas.Bool.Decides.{nat_tests}
use Rattle.std.proofs.lemmas.Nat.{and_mask, mod_below, or_lt, pow-add, pow_below, pow_pos}
use Rattle.std.proofs.lemmas.Nat.Bits.{bit_at_or}
use Rattle.byteorder.specs.Endian.{big_bytes, big_number, little_bytes, little_number}
use Rattle.byteorder.specs.Numbers.{big_from-bytes, big_from-take, little_from-bytes, little_from-take}
use Rattle.byteorder.proofs.Bytes.{pow256}
use Rattle.rfb_pixel.specs.declared.colour.Colour.{Colour}
use Rattle.rfb_pixel.specs.declared.channel.Channel.{Channel}
use Rattle.rfb_pixel.specs.Channel.{max_of, IsField, IsInField, AgreeInField, held_in, rescaled, field_for}
use Rattle.rfb_pixel.specs.Channel.{field_for_byte, component_in, seen_in_byte}
use Rattle.rfb_pixel.specs.Format.{PixelFormat, IsFormat, IsColour, IsOutsideFields, FieldsHold, AgreeInFields}
use Rattle.rfb_pixel.specs.Format.{KeepsFullFields, FieldsKept, size_of, pixel_of, pixel_of_bytes, colour_of}
use Rattle.rfb_pixel.specs.Format.{colour_of_bytes, pixel_bytes, pixel_number, rgb888, seen_through, seen_in_bytes}
use Rattle.rfb_pixel.proofs.ChannelLemmas.{rescaled-le, rescaled-same, rescaled-back, max_of-odd, bit_at-held_in}
use Rattle.rfb_pixel.proofs.ChannelLemmas.{held_in-is, bit_at-placed, bit_at-outside}

-- ---- bytes

-- a slice of one byte holds the byte that is put there
only_byte : (bytes : List ℕ) (b : ℕ) → length bytes ≡ 1 → set bytes 0 b ≡ b ∷ []
only_byte [] b h = absurd (omega arith)
only_byte (x ∷ []) b h = refl
only_byte (x ∷ y ∷ bytes) b h = absurd (omega arith)

-- a pixel is read from its own bytes alone
pub pixel_number-take : (f : PixelFormat) (bytes : List ℕ) (n : ℕ) → size_of f ≤ n →
    pixel_number f (take n bytes) ≡ pixel_number f bytes
pixel_number-take f bytes n enough = ordered f.big_endian
  where
    ordered : (b : Bool) →
        (if b then big_number (size_of f) (take n bytes) else little_number (size_of f) (take n bytes))
        ≡ (if b then big_number (size_of f) bytes else little_number (size_of f) bytes)
    ordered true = big_from-take 0 (size_of f) n bytes (omega arith)
    ordered false = little_from-take 0 (size_of f) n bytes (omega arith)

-- a pixel of 8 bits is its low byte, in either byte order
pub one_byte : (f : PixelFormat) (pixel : ℕ) (bytes : List ℕ) → f.bits_per_pixel ≡ 8 →
    length bytes ≡ size_of f → set bytes 0 (bit_and pixel 255) ≡ pixel_bytes f pixel
one_byte f pixel bytes e h =
    let size : size_of f ≡ 1 = ap (λ (n : ℕ). n / 8) e in
    let low : bit_and pixel 255 ≡ pixel % 256 = and_mask pixel 8 in
    let big : big_bytes (size_of f) pixel ≡ pixel % 256 ∷ [] = rw size refl in
    let little : little_bytes (size_of f) pixel ≡ pixel % 256 ∷ [] = rw size refl in
    let same : (b : Bool) →
    cond b (big_bytes (size_of f) pixel) (little_bytes (size_of f) pixel) ≡ pixel % 256 ∷ [] =
    λ b. elim b as
    (λ (v : Bool). cond v (big_bytes (size_of f) pixel) (little_bytes (size_of f) pixel)
    ≡ pixel % 256 ∷ []) [ true ↦ big | false ↦ little ] in
    only_byte bytes (bit_and pixel 255) (h ∙ size) ∙ ap (λ (x : ℕ). x ∷ []) low
    ∙ sym (same f.big_endian)

-- what is read back of a pixel's bytes is the pixel's low bits, whatever follows
pub pixel_number-pixel_bytes : (f : PixelFormat) (pixel : ℕ) (rest : List ℕ) →
    pixel_number f (pixel_bytes f pixel ++ rest) ≡ pixel % 2 ^ (8 * size_of f)
pixel_number-pixel_bytes f pixel rest = ordered f.big_endian
  where
    ordered : (b : Bool) →
        cond b (big_number (size_of f)
        (cond b (big_bytes (size_of f) pixel) (little_bytes (size_of f) pixel) ++ rest))
        (little_number (size_of f)
        (cond b (big_bytes (size_of f) pixel) (little_bytes (size_of f) pixel) ++ rest))
        ≡ pixel % 2 ^ (8 * size_of f)
    ordered true =
        big_from-bytes (size_of f) pixel rest ∙ ap (λ (m : ℕ). pixel % m) (pow256 (size_of f))
    ordered false =
        little_from-bytes (size_of f) 0 pixel rest
        ∙ rw div-one (ap (λ (m : ℕ). pixel % m) (pow256 (size_of f)))

-- ---- fields

-- colours with the same components are one
pub same_colour : (a b : Colour) → a.r ≡ b.r → a.g ≡ b.g → a.b ≡ b.b → a ≡ b
same_colour a b red green blue = λ i. record { r = red i; g = green i; b = blue i }

-- a component is rounded into its field
pub field_for-lt : (bits : ℕ) (c : Channel) (component : ℕ) → IsField bits c → component ≤ 65535 →
    field_for c component < 2 ^ c.width
field_for-lt bits c component ok small =
    omega (arith, rescaled-le 65535 (max_of c) component (omega arith) small, pow_pos c.width)

-- a bit of a pixel value: the greatest of the three fields' bits there
bit_at-pixel_of : (f : PixelFormat) (c : Colour) (i : ℕ) →
    bit_at (pixel_of f c) i
    ≡ max (max (bit_at (field_for f.red c.r * 2 ^ f.red.shift) i)
    (bit_at (field_for f.green c.g * 2 ^ f.green.shift) i))
    (bit_at (field_for f.blue c.b * 2 ^ f.blue.shift) i)
bit_at-pixel_of f c i =
    let red = field_for f.red c.r * 2 ^ f.red.shift in
    let green = field_for f.green c.g * 2 ^ f.green.shift in
    let blue = field_for f.blue c.b * 2 ^ f.blue.shift in
    bit_at_or (bit_or red green) blue i
    ∙ ap (λ (m : ℕ). max m (bit_at blue i)) (bit_at_or red green i)

-- bits outside the fields are zero
pub pixel_of-outside : (f : PixelFormat) (c : Colour) → IsFormat f → IsColour c → (i : ℕ) →
    IsOutsideFields f i → bit_at (pixel_of f c) i ≡ 0
pixel_of-outside f c ok small i out =
    let red = bit_at-outside f.red (field_for f.red c.r) i
    (field_for-lt f.bits_per_pixel f.red c.r ok.red small.0) out.red in
    let green = bit_at-outside f.green (field_for f.green c.g) i
    (field_for-lt f.bits_per_pixel f.green c.g ok.green small.1) out.green in
    let blue = bit_at-outside f.blue (field_for f.blue c.b) i
    (field_for-lt f.bits_per_pixel f.blue c.b ok.blue small.2) out.blue in
    bit_at-pixel_of f c i ∙ rw (red, green, blue) refl

-- a field holds the value whose bits, at its shift, the pixel has there
held_alone : (c : Channel) (pixel held : ℕ) → held < 2 ^ c.width →
    ((i : ℕ) → IsInField c i → bit_at pixel i ≡ bit_at (held * 2 ^ c.shift) i) → held_in c pixel ≡ held
held_alone c pixel held small same =
    held_in-is c pixel held small
    (λ i low. same (c.shift + i) (omega arith, omega arith) ∙ bit_at-placed c.shift held i)

-- each field of a colour's pixel value holds its component, rounded
pub pixel_of-fields : (f : PixelFormat) (c : Colour) → IsFormat f → IsColour c →
    FieldsHold f c (pixel_of f c)
pixel_of-fields f c ok small =
    let red_small = field_for-lt f.bits_per_pixel f.red c.r ok.red small.0 in
    let green_small = field_for-lt f.bits_per_pixel f.green c.g ok.green small.1 in
    let blue_small = field_for-lt f.bits_per_pixel f.blue c.b ok.blue small.2 in
    let red_out =
    λ (i : ℕ) (out : IsInField f.red i → ⊥).
    bit_at-outside f.red (field_for f.red c.r) i red_small out in
    let green_out =
    λ (i : ℕ) (out : IsInField f.green i → ⊥).
    bit_at-outside f.green (field_for f.green c.g) i green_small out in
    let blue_out =
    λ (i : ℕ) (out : IsInField f.blue i → ⊥).
    bit_at-outside f.blue (field_for f.blue c.b) i blue_small out in
    record {
      red = held_alone f.red (pixel_of f c) (field_for f.red c.r) red_small (λ i here. bit_at-pixel_of f c i
          ∙ rw (green_out i (ok.red_green i here), blue_out i (ok.red_blue i here)) (omega arith));
      green = held_alone f.green (pixel_of f c) (field_for f.green c.g) green_small (λ i here. bit_at-pixel_of f c i
          ∙ rw (red_out i (λ there. ok.red_green i there here), blue_out i (ok.green_blue i here)) (omega arith));
      blue = held_alone f.blue (pixel_of f c) (field_for f.blue c.b) blue_small (λ i here. bit_at-pixel_of f c i
          ∙ rw (red_out i (λ there. ok.red_blue i there here), green_out i (λ there. ok.green_blue i there here))
          (omega arith));
    }

-- a field at its shift fits the pixel
field-below : (bits : ℕ) (c : Channel) (component : ℕ) → IsField bits c → component ≤ 65535 →
    field_for c component * 2 ^ c.shift < 2 ^ bits
field-below bits c component ok small =
    let held = field_for-lt bits c component ok small in
    let some = pow_pos c.shift in
    let split = pow-add 2 c.width c.shift in
    let ends : c.width + c.shift ≤ bits = omega arith in
    let above : field_for c component + 1 ≤ 2 ^ c.width = omega (arith, held) in
    let wide : 2 ^ (c.width + c.shift) ≤ 2 ^ bits = pow_mono ends in
    let placed : (field_for c component + 1) * 2 ^ c.shift ≤ 2 ^ c.width * 2 ^ c.shift =
    mul-le-mul_right (2 ^ c.shift) above in
    omega (arith, placed, split, wide)

-- the bits of a format's pixels, by bytes
size-bits : (f : PixelFormat) → IsFormat f → 8 * size_of f ≡ f.bits_per_pixel
size-bits f ok = grind (arith, nat_tests, ok.whole)

-- a pixel value fits the format's size
pub pixel_of-lt : (f : PixelFormat) (c : Colour) → IsFormat f → IsColour c →
    pixel_of f c < 2 ^ (8 * size_of f)
pixel_of-lt f c ok small =
    let bits = f.bits_per_pixel in
    let red = field-below bits f.red c.r ok.red small.0 in
    let green = field-below bits f.green c.g ok.green small.1 in
    let blue = field-below bits f.blue c.b ok.blue small.2 in
    rw (size-bits f ok) (or_lt bits _ _ (or_lt bits _ _ red green) blue)

-- a field that has the same bits holds the same
held_in-agree : (bits : ℕ) (c : Channel) (p q : ℕ) → AgreeInField c p q → held_in c p ≡ held_in c q
held_in-agree bits c p q same =
    held_in-is c p (held_in c q) (mod_below (q / 2 ^ c.shift) (2 ^ c.width) (pow_pos c.width))
    (λ i low.
    same (c.shift + i) (omega arith, omega arith) ∙ sym (bit_at-held_in c q i low))

-- pixel values with the same bits in the fields have one colour
pub colour_of-agree : (f : PixelFormat) (p q : ℕ) → AgreeInFields f p q →
    colour_of f p ≡ colour_of f q
colour_of-agree f p q same =
    let red = held_in-agree 32 f.red p q same.red in
    let green = held_in-agree 32 f.green p q same.green in
    let blue = held_in-agree 32 f.blue p q same.blue in
    rw (red, green, blue) refl

-- a component is seen as it is through a field as fine as a component
component-exact : (c : Channel) (component pixel : ℕ) → max_of c ≡ 65535 →
    held_in c pixel ≡ field_for c component → component_in c pixel ≡ component
component-exact c component pixel full held =
    rw (held, full) (rescaled-same 65535 (rescaled 65535 65535 component) (omega arith)
    ∙ rescaled-same 65535 component (omega arith))

-- a colour keeps the components whose fields are as fine
pub seen_through-full : (f : PixelFormat) (c : Colour) → IsFormat f → IsColour c →
    KeepsFullFields f c (seen_through f c)
seen_through-full f c ok small =
    let held = pixel_of-fields f c ok small in
    record {
      red = λ full. component-exact f.red c.r (pixel_of f c) full held.red;
      green = λ full. component-exact f.green c.g (pixel_of f c) full held.green;
      blue = λ full. component-exact f.blue c.b (pixel_of f c) full held.blue;
    }

-- a component through a field of eight bits
in_byte : (component : ℕ) → rescaled 255 65535 (rescaled 65535 255 component) ≡ seen_in_byte component
in_byte component =
    let held : (component * 255 + 32767) / 65535 ≡ (component + 128) / 257 = omega arith in
    let shown : ((component + 128) / 257 * 65535 + 127) / 255 ≡ 257 * ((component + 128) / 257) = omega arith in
    rw held shown

-- what a field holds comes back as it was: no field is finer than a component
field-kept : (c : Channel) (p q : ℕ) → 1 ≤ c.width → c.width ≤ 16 →
    held_in c q ≡ field_for c (component_in c p) → held_in c q ≡ held_in c p
field-kept c p q some narrow held =
    let wide : 2 ^ c.width ≤ 2 ^ 16 = pow_mono narrow in
    held ∙ rescaled-back (max_of c) 65535 (2 ^ (c.width - 1) - 1) 32767 (held_in c p)
    (max_of-odd c.width some) refl (omega (arith, wide))

-- a component is at most 65535
component_in-le : (bits : ℕ) (c : Channel) (p : ℕ) → IsField bits c → component_in c p ≤ 65535
component_in-le bits c p ok =
    let some = pow_below 0 c.width (omega arith) in
    let held = mod_below (p / 2 ^ c.shift) (2 ^ c.width) (pow_pos c.width) in
    rescaled-le (max_of c) 65535 (held_in c p) (omega arith) (omega arith)

-- a pixel value's colour has a pixel value that agrees in the fields
pub colour_of-kept : (f : PixelFormat) (p : ℕ) → IsFormat f →
    FieldsKept f p (pixel_of f (colour_of f p))
colour_of-kept f p ok =
    let small : IsColour (colour_of f p) = (
      component_in-le f.bits_per_pixel f.red p ok.red,
      component_in-le f.bits_per_pixel f.green p ok.green,
      component_in-le f.bits_per_pixel f.blue p ok.blue,
    ) in
    let held = pixel_of-fields f (colour_of f p) ok small in
    let q = pixel_of f (colour_of f p) in
    record {
      red = field-kept f.red p q (omega (arith, ok.red)) (omega (arith, ok.red)) held.red;
      green = field-kept f.green p q (omega (arith, ok.green)) (omega (arith, ok.green)) held.green;
      blue = field-kept f.blue p q (omega (arith, ok.blue)) (omega (arith, ok.blue)) held.blue;
    }

-- a component of eight bits, 257 times as much, has the field of the byte
pub field_for_byte-same : (c : Channel) (byte : ℕ) → field_for c (257 * byte) ≡ field_for_byte c byte
field_for_byte-same c byte =
    let product : 257 * byte * max_of c ≡ 257 * (byte * max_of c) = omega arith in
    rw product (of_product (byte * max_of c))
  where
    of_product : (n : ℕ) → (257 * n + 32767) / 65535 ≡ (n + 127) / 255
    of_product n = omega arith

-- so has a colour its pixel
pub pixel_of_bytes-same : (f : PixelFormat) (r g b : ℕ) →
    pixel_of f (colour_of_bytes r g b) ≡ pixel_of_bytes f r g b
pixel_of_bytes-same f r g b =
    rw (field_for_byte-same f.red r, field_for_byte-same f.green g, field_for_byte-same f.blue b) refl

-- rgb888 is a format
pub rgb888-is_format : IsFormat rgb888
rgb888-is_format = record {
  whole = refl;
  deep = omega arith;
  red = (omega arith, omega arith, omega arith);
  green = (omega arith, omega arith, omega arith);
  blue = (omega arith, omega arith, omega arith);
  red_green = λ i here there. omega arith;
  red_blue = λ i here there. omega arith;
  green_blue = λ i here there. omega arith;
}

-- a colour as rgb888 shows it
pub seen_in_rgb888 : (c : Colour) → IsColour c → seen_through rgb888 c ≡ seen_in_bytes c
seen_in_rgb888 c small =
    let held = pixel_of-fields rgb888 c rgb888-is_format small in
    same_colour (seen_through rgb888 c) (seen_in_bytes c)
    (rw held.red (in_byte c.r)) (rw held.green (in_byte c.g)) (rw held.blue (in_byte c.b))

-- what a pixel's bytes read as
pub low_bits : (f : PixelFormat) (pixel : ℕ) (bytes : List ℕ) → bytes ≡ pixel_bytes f pixel →
    pixel_number f bytes ≡ pixel % 2 ^ (8 * size_of f)
low_bits f pixel bytes e =
    ap (pixel_number f) (e ∙ sym (append-nil (pixel_bytes f pixel)))
    ∙ pixel_number-pixel_bytes f pixel []
