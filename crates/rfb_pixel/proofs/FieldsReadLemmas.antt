-- Laws of the reading of the three fields: what is read, and the fault of a maximum.
use Rattle.std.proofs.Common.{◌≡◌, ◌≢◌, ℕ, ◌≤◌, List, Bool, true, false, nat_le, ◌==◌, ◌||◌, Some, Ok, Err, Result}
use Rattle.std.proofs.Common.{if◌then◌else◌, slice_index, refl, arith}
use Rattle.rfb_pixel.specs.declared.channel.Channel.{Channel}
use Rattle.rfb_pixel.specs.declared.fault.FormatFault.{FormatFault}
use Rattle.rfb_pixel.specs.declared.fault.FormatFault.TheVariants.{BadMax}
use Rattle.std.proofs.lemmas.Bool.Decides.{nat_tests}
use Rattle.std.proofs.lemmas.Bool.{le-leb}
use Rattle.rfb_pixel.specs.Channel.{is_max, width_of}
use Rattle.rfb_pixel.specs.FormatBytes.{number_at, first_fault, fault_of_fields}

-- what the reading of a field gives
abbrev pub field_read : ℕ → ℕ → Result Channel FormatFault
field_read m shift =
    if is_max m then Ok (record { width = width_of m; shift = shift }) else Err BadMax

-- what follows from the reading of a field
pub read_field : (m shift : ℕ) (c : Channel) → Ok c ≡ field_read m shift →
    (is_max m ≡ true) × (c ≡ record { width = width_of m; shift = shift })
read_field m shift c e = by (is_max m) e
  where
    by : (b : Bool) →
        ◌≡◌ {A = Result Channel FormatFault} (Ok c)
        (if b then Ok (record { width = width_of m; shift = shift }) else Err BadMax) →
        (b ≡ true) × (c ≡ record { width = width_of m; shift = shift })
    by true h = (refl, cc)
    by false h = cc

-- why the reading of a field is refused
pub refuses_field : (m shift : ℕ) (e : FormatFault) → Err e ≡ field_read m shift →
    (is_max m ≡ false) × (e ≡ BadMax)
refuses_field m shift e r = by (is_max m) r
  where
    by : (b : Bool) →
        ◌≡◌ {A = Result Channel FormatFault} (Err e)
        (if b then Ok (record { width = width_of m; shift = shift }) else Err BadMax) →
        (b ≡ false) × (e ≡ BadMax)
    by true h = cc
    by false h = (refl, cc)

-- the first three checks pass
abbrev pub HeadPasses : List ℕ → Type 0
HeadPasses bytes =
    ((slice_index bytes 0 == 8 || slice_index bytes 0 == 16 || slice_index bytes 0 == 32) ≡ true)
    × (nat_le (slice_index bytes 1) (slice_index bytes 0) ≡ true)
    × ((slice_index bytes 3 == 0) ≡ false)

pub head_passes : (bytes : List ℕ) →
    (slice_index bytes 0 == 8 || slice_index bytes 0 == 16 || slice_index bytes 0 == 32) ≡ true →
    slice_index bytes 1 ≤ slice_index bytes 0 → slice_index bytes 3 ≢ 0 → HeadPasses bytes
head_passes bytes bits depth colour =
    (bits, le-leb _ _ depth, grind (arith, nat_tests, colour))

-- where a maximum is refused, that is the first fault
pub red_refused : (bytes : List ℕ) (e : FormatFault) → HeadPasses bytes →
    Err e ≡ field_read (number_at 4 bytes) (slice_index bytes 10) → Some e ≡ first_fault bytes
red_refused bytes e head r =
    let red = refuses_field (number_at 4 bytes) (slice_index bytes 10) e r in
    rw (red.1, head.0, head.1, head.2, red.0) refl

pub green_refused : (bytes : List ℕ) (red : Channel) (e : FormatFault) → HeadPasses bytes →
    Ok red ≡ field_read (number_at 4 bytes) (slice_index bytes 10) →
    Err e ≡ field_read (number_at 6 bytes) (slice_index bytes 11) → Some e ≡ first_fault bytes
green_refused bytes red e head r g =
    let red_is = read_field (number_at 4 bytes) (slice_index bytes 10) red r in
    let green = refuses_field (number_at 6 bytes) (slice_index bytes 11) e g in
    rw (green.1, head.0, head.1, head.2, red_is.0, green.0) refl

pub blue_refused : (bytes : List ℕ) (red green : Channel) (e : FormatFault) → HeadPasses bytes →
    Ok red ≡ field_read (number_at 4 bytes) (slice_index bytes 10) →
    Ok green ≡ field_read (number_at 6 bytes) (slice_index bytes 11) →
    Err e ≡ field_read (number_at 8 bytes) (slice_index bytes 12) → Some e ≡ first_fault bytes
blue_refused bytes red green e head r g b =
    let red_is = read_field (number_at 4 bytes) (slice_index bytes 10) red r in
    let green_is = read_field (number_at 6 bytes) (slice_index bytes 11) green g in
    let blue = refuses_field (number_at 8 bytes) (slice_index bytes 12) e b in
    rw (blue.1, head.0, head.1, head.2, red_is.0, green_is.0, blue.0) refl

-- the checks that are left once the maxima are read
pub after_maxima : (bytes : List ℕ) (red green blue : Channel) → HeadPasses bytes →
    Ok red ≡ field_read (number_at 4 bytes) (slice_index bytes 10) →
    Ok green ≡ field_read (number_at 6 bytes) (slice_index bytes 11) →
    Ok blue ≡ field_read (number_at 8 bytes) (slice_index bytes 12) →
    first_fault bytes ≡ fault_of_fields (slice_index bytes 0) red green blue
after_maxima bytes red green blue head r g b =
    let red_is = read_field (number_at 4 bytes) (slice_index bytes 10) red r in
    let green_is = read_field (number_at 6 bytes) (slice_index bytes 11) green g in
    let blue_is = read_field (number_at 8 bytes) (slice_index bytes 12) blue b in
    rw (red_is.1, green_is.1, blue_is.1, head.0, head.1, head.2, red_is.0, green_is.0, blue_is.0) refl
