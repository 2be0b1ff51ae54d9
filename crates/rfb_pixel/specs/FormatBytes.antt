-- PIXEL_FORMAT, RFC 6143 section 7.4: the bytes that spell a format, and
-- the fault that others show.
use Rattle.std.specs.Prelude.{◌≡◌, ◌≢◌, ℕ, List, [], ◌∷◌, ◌++◌, not, ◌==◌, ◌||◌, ◌&&◌, nat_le, if◌then◌else◌, length}
use Rattle.std.specs.Prelude.{drop, slice_index, Option, Some, None, ◌<◌, ◌≤◌, ⊤}
use Rattle.byteorder.specs.Endian.{big_bytes, big_number}
use Rattle.rfb_pixel.specs.declared.channel.Channel.{Channel}
use Rattle.rfb_pixel.specs.declared.fault.FormatFault.{FormatFault}
use Rattle.rfb_pixel.specs.declared.fault.FormatFault.TheVariants.{BadBits, DepthTooLarge, NotTrueColour, BadMax}
use Rattle.rfb_pixel.specs.declared.fault.FormatFault.TheVariants.{ShiftTooLarge, FieldsOverlap}
use Rattle.rfb_pixel.specs.Channel.{IsMax, EndsWithin, max_of, width_of, is_max, are_within, are_apart}
use Rattle.rfb_pixel.specs.Format.{PixelFormat, IsPixelSize, IsApart}

-- each number of a list is a byte
abbrev pub AreBytes : List ℕ → Type 0
AreBytes bytes = (i : ℕ) → slice_index bytes i < 256

-- the 16-bit number at a byte, its high byte first
abbrev pub number_at : ℕ → List ℕ → ℕ
number_at i bytes = big_number 2 (drop i bytes)

-- sixteen bytes spell a format, field by field as in the table; padding is not looked at
pub record Spells (f : PixelFormat) (bytes : List ℕ) : Type 0 where
  pub whole : length bytes ≡ 16
  pub bits_per_pixel : slice_index bytes 0 ≡ f.bits_per_pixel
  pub depth : slice_index bytes 1 ≡ f.depth
  pub big_endian_flag : not (slice_index bytes 2 == 0) ≡ f.big_endian
  pub true_colour_flag : slice_index bytes 3 ≢ 0
  pub red_max : number_at 4 bytes ≡ max_of f.red
  pub green_max : number_at 6 bytes ≡ max_of f.green
  pub blue_max : number_at 8 bytes ≡ max_of f.blue
  pub red_shift : slice_index bytes 10 ≡ f.red.shift
  pub green_shift : slice_index bytes 11 ≡ f.green.shift
  pub blue_shift : slice_index bytes 12 ≡ f.blue.shift

-- the field whose maximum and shift are at these bytes
abbrev pub field_at : ℕ → ℕ → List ℕ → Channel
field_at max shift bytes =
    record { width = width_of (number_at max bytes); shift = slice_index bytes shift }

-- the red, the green and the blue field of sixteen bytes
abbrev pub red_at : List ℕ → Channel
red_at bytes = field_at 4 10 bytes

abbrev pub green_at : List ℕ → Channel
green_at bytes = field_at 6 11 bytes

abbrev pub blue_at : List ℕ → Channel
blue_at bytes = field_at 8 12 bytes

-- the first check that three fields fail in a pixel of that many bits, if there is one
abbrev pub fault_of_fields : ℕ → Channel → Channel → Channel → Option FormatFault
fault_of_fields bits red green blue =
    if not (are_within bits red green blue) then Some ShiftTooLarge else
    if not (are_apart red green blue) then Some FieldsOverlap else None

-- the first check that sixteen bytes fail, if there is one
abbrev pub first_fault : List ℕ → Option FormatFault
first_fault bytes =
    let bits = slice_index bytes 0 in
    if not (bits == 8 || bits == 16 || bits == 32) then Some BadBits else
    if not (nat_le (slice_index bytes 1) bits) then Some DepthTooLarge else
    if slice_index bytes 3 == 0 then Some NotTrueColour else
    if not (is_max (number_at 4 bytes) && is_max (number_at 6 bytes) && is_max (number_at 8 bytes))
    then Some BadMax else
    fault_of_fields bits (red_at bytes) (green_at bytes) (blue_at bytes)

-- the bytes that a format is written as: flags are 0 or 1, padding is zero
abbrev pub format_bytes : PixelFormat → List ℕ
format_bytes f =
    f.bits_per_pixel ∷ f.depth ∷ (if f.big_endian then 1 else 0) ∷ 1
    ∷ (big_bytes 2 (max_of f.red) ++ big_bytes 2 (max_of f.green) ++ big_bytes 2 (max_of f.blue)
    ++ f.red.shift ∷ f.green.shift ∷ f.blue.shift ∷ 0 ∷ 0 ∷ 0 ∷ [])

-- the check of each fault, on sixteen bytes: bits-per-pixel, depth, true-colour-flag, the three
-- maxima, the three ends and the three pairs of fields
abbrev pub Passes : FormatFault → List ℕ → Type 0
Passes BadBits bytes = IsPixelSize (slice_index bytes 0)
Passes DepthTooLarge bytes = slice_index bytes 1 ≤ slice_index bytes 0
Passes NotTrueColour bytes = slice_index bytes 3 ≢ 0
Passes BadMax bytes =
    IsMax (number_at 4 bytes) × IsMax (number_at 6 bytes) × IsMax (number_at 8 bytes)
Passes ShiftTooLarge bytes =
    EndsWithin (number_at 4 bytes) (slice_index bytes 10) (slice_index bytes 0)
    × EndsWithin (number_at 6 bytes) (slice_index bytes 11) (slice_index bytes 0)
    × EndsWithin (number_at 8 bytes) (slice_index bytes 12) (slice_index bytes 0)
Passes FieldsOverlap bytes =
    IsApart (red_at bytes) (green_at bytes) × IsApart (red_at bytes) (blue_at bytes)
    × IsApart (green_at bytes) (blue_at bytes)

-- the checks that come before the one of a fault
abbrev pub PassesBefore : FormatFault → List ℕ → Type 0
PassesBefore BadBits bytes = ⊤
PassesBefore DepthTooLarge bytes = Passes BadBits bytes
PassesBefore NotTrueColour bytes = Passes BadBits bytes × Passes DepthTooLarge bytes
PassesBefore BadMax bytes =
    Passes BadBits bytes × Passes DepthTooLarge bytes × Passes NotTrueColour bytes
PassesBefore ShiftTooLarge bytes =
    Passes BadBits bytes × Passes DepthTooLarge bytes × Passes NotTrueColour bytes
    × Passes BadMax bytes
PassesBefore FieldsOverlap bytes =
    Passes BadBits bytes × Passes DepthTooLarge bytes × Passes NotTrueColour bytes
    × Passes BadMax bytes × Passes ShiftTooLarge bytes

-- the fault is the first: its check fails, and each check before it passes
pub record IsFirstFault (fault : FormatFault) (bytes : List ℕ) : Type 0 where
  pub before : PassesBefore fault bytes
  pub fails : Passes fault bytes → ⊥
