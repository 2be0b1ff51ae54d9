-- Pixel formats, RFC 6143 section 7.4: what contracts see of a `Format`, and what a pixel means.
use Rattle.std.specs.Prelude.{◌≡◌, ℕ, ◌*◌, ◌/◌, ◌^◌, ◌<◌, ◌≤◌, ◌==◌, ◌||◌, Bool, false, List, length, drop, slice_index}
use Rattle.std.specs.Prelude.{slice_index_or, bit_or, IsTrue, if◌then◌else◌}
use Rattle.byteorder.specs.Endian.{big_bytes, big_number, little_bytes, little_number}
use Rattle.rfb_pixel.specs.declared.colour.Colour.{Colour}
use Rattle.rfb_pixel.specs.declared.channel.Channel.{Channel}
use Rattle.rfb_pixel.specs.declared.colour.TheConstants.{COMPONENT_MAX}
use Rattle.rfb_pixel.specs.Channel.{max_of, IsField, IsInField, AgreeInField, held_in, field_for, field_for_byte}
use Rattle.rfb_pixel.specs.Channel.{component_in, seen_in_byte}

-- the fields of a PIXEL_FORMAT whose true-colour-flag is set
pub record PixelFormat : Type 0 where
  pub bits_per_pixel : ℕ
  pub depth : ℕ
  pub big_endian : Bool
  pub red : Channel
  pub green : Channel
  pub blue : Channel

-- the format of these bits, depth and byte order, and three fields
abbrev pub pixel_format : ℕ → ℕ → Bool → Channel → Channel → Channel → PixelFormat
pixel_format bits depth big_endian red green blue = record {
  bits_per_pixel = bits;
  depth = depth;
  big_endian = big_endian;
  red = red;
  green = green;
  blue = blue;
}

-- a pixel has 8, 16 or 32 bits
abbrev pub IsPixelSize : ℕ → Type 0
IsPixelSize bits = IsTrue (bits == 8 || bits == 16 || bits == 32)

-- no bit of a pixel is in both fields
abbrev pub IsApart : Channel → Channel → Type 0
IsApart a b = (i : ℕ) → IsInField a i → IsInField b i → ⊥

-- a format that a peer may ask for: 8, 16 or 32 bits, and three fields
-- inside them that share no bit
pub record IsFormat (f : PixelFormat) : Type 0 where
  pub whole : IsPixelSize f.bits_per_pixel
  pub deep : f.depth ≤ f.bits_per_pixel
  pub red : IsField f.bits_per_pixel f.red
  pub green : IsField f.bits_per_pixel f.green
  pub blue : IsField f.bits_per_pixel f.blue
  pub red_green : IsApart f.red f.green
  pub red_blue : IsApart f.red f.blue
  pub green_blue : IsApart f.green f.blue

-- how many bytes a pixel has
abbrev pub size_of : PixelFormat → ℕ
size_of f = f.bits_per_pixel / 8

-- the pixel value of a colour: each component's field at its shift
abbrev pub pixel_of : PixelFormat → Colour → ℕ
pixel_of f c =
    bit_or
    (bit_or (field_for f.red c.r * 2 ^ f.red.shift) (field_for f.green c.g * 2 ^ f.green.shift))
    (field_for f.blue c.b * 2 ^ f.blue.shift)

-- the pixel value of three components of eight bits
abbrev pub pixel_of_bytes : PixelFormat → ℕ → ℕ → ℕ → ℕ
pixel_of_bytes f r g b =
    bit_or
    (bit_or (field_for_byte f.red r * 2 ^ f.red.shift) (field_for_byte f.green g * 2 ^ f.green.shift))
    (field_for_byte f.blue b * 2 ^ f.blue.shift)

-- the colour of three components of eight bits: each is 257 times as much
abbrev pub colour_of_bytes : ℕ → ℕ → ℕ → Colour
colour_of_bytes r g b = record { r = 257 * r; g = 257 * g; b = 257 * b }

-- each number of a list fits the bytes of a pixel
abbrev pub ArePixels : PixelFormat → List ℕ → Type 0
ArePixels f pixels = (i : ℕ) → i < length pixels → slice_index pixels i < 2 ^ (8 * size_of f)

-- bit i of a pixel belongs to none of the three fields
pub record IsOutsideFields (f : PixelFormat) (i : ℕ) : Type 0 where
  pub red : IsInField f.red i → ⊥
  pub green : IsInField f.green i → ⊥
  pub blue : IsInField f.blue i → ⊥

-- each field of the pixel value holds what its component is rounded to
pub record FieldsHold (f : PixelFormat) (c : Colour) (p : ℕ) : Type 0 where
  pub red : held_in f.red p ≡ field_for f.red c.r
  pub green : held_in f.green p ≡ field_for f.green c.g
  pub blue : held_in f.blue p ≡ field_for f.blue c.b

-- two pixel values have the same bits in all three fields
pub record AgreeInFields (f : PixelFormat) (p q : ℕ) : Type 0 where
  pub red : AgreeInField f.red p q
  pub green : AgreeInField f.green p q
  pub blue : AgreeInField f.blue p q

-- a colour's components are at most COMPONENT_MAX
abbrev pub IsColour : Colour → Type 0
IsColour c = (c.r ≤ COMPONENT_MAX) × (c.g ≤ COMPONENT_MAX) × (c.b ≤ COMPONENT_MAX)

-- the colour of a pixel value
abbrev pub colour_of : PixelFormat → ℕ → Colour
colour_of f p =
    record { r = component_in f.red p; g = component_in f.green p; b = component_in f.blue p }

-- what a colour looks like through a format
abbrev pub seen_through : PixelFormat → Colour → Colour
seen_through f c = colour_of f (pixel_of f c)

-- a colour as rgb888 shows it: each component is the nearest multiple of 257
abbrev pub seen_in_bytes : Colour → Colour
seen_in_bytes c = record { r = seen_in_byte c.r; g = seen_in_byte c.g; b = seen_in_byte c.b }

-- a component whose field is as fine as a component is seen as it is
pub record KeepsFullFields (f : PixelFormat) (c seen : Colour) : Type 0 where
  pub red : max_of f.red ≡ COMPONENT_MAX → seen.r ≡ c.r
  pub green : max_of f.green ≡ COMPONENT_MAX → seen.g ≡ c.g
  pub blue : max_of f.blue ≡ COMPONENT_MAX → seen.b ≡ c.b

-- each field holds the same in q as in p
pub record FieldsKept (f : PixelFormat) (p q : ℕ) : Type 0 where
  pub red : held_in f.red q ≡ held_in f.red p
  pub green : held_in f.green q ≡ held_in f.green p
  pub blue : held_in f.blue q ≡ held_in f.blue p

-- the bytes of a pixel value on the wire; bits above the size are not sent
abbrev pub pixel_bytes : PixelFormat → ℕ → List ℕ
pixel_bytes f p = if f.big_endian then big_bytes (size_of f) p else little_bytes (size_of f) p

-- the pixel value that bytes begin with
abbrev pub pixel_number : PixelFormat → List ℕ → ℕ
pixel_number f bytes =
    if f.big_endian then big_number (size_of f) bytes else little_number (size_of f) bytes

-- each colour of a list is that of its pixel; the pixels follow one another in the bytes
abbrev pub AreColours : PixelFormat → List ℕ → List Colour → Type 0
AreColours f bytes colours =
    (k : ℕ) (d : Colour) → k < length colours →
    slice_index_or colours k d ≡ colour_of f (pixel_number f (drop (k * size_of f) bytes))

-- the format that this project announces
abbrev pub rgb888 : PixelFormat
rgb888 = record {
  bits_per_pixel = 32;
  depth = 24;
  big_endian = false;
  red = record { width = 8; shift = 16 };
  green = record { width = 8; shift = 8 };
  blue = record { width = 8; shift = 0 };
}

-- 16 bits: five of red above six of green above five of blue
abbrev pub rgb565 : PixelFormat
rgb565 = record {
  bits_per_pixel = 16;
  depth = 16;
  big_endian = false;
  red = record { width = 5; shift = 11 };
  green = record { width = 6; shift = 5 };
  blue = record { width = 5; shift = 0 };
}

-- 8 bits: two of blue above three of green above three of red
abbrev pub bgr233 : PixelFormat
bgr233 = record {
  bits_per_pixel = 8;
  depth = 8;
  big_endian = false;
  red = record { width = 3; shift = 0 };
  green = record { width = 3; shift = 3 };
  blue = record { width = 2; shift = 6 };
}

-- 32 bits: two that mean nothing above ten of red, ten of green and ten of blue
abbrev pub rgb101010 : PixelFormat
rgb101010 = record {
  bits_per_pixel = 32;
  depth = 30;
  big_endian = false;
  red = record { width = 10; shift = 20 };
  green = record { width = 10; shift = 10 };
  blue = record { width = 10; shift = 0 };
}
