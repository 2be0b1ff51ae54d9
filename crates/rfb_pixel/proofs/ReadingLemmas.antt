-- Laws of the bytes of a format.
use Rattle.std.proofs.Common.{◌≡◌, ℕ, ◌≤◌, ◌<◌, ◌+◌, ◌-◌, ◌^◌, ◌⊎◌, ◌&&◌, ◌++◌, inl, inr, subst, drop, get_or-drop}
use Rattle.std.proofs.Common.{List, Bool, true, false, not, nat_le, ◌==◌, ◌||◌, Option, Some, None, if◌then◌else◌}
use Rattle.std.proofs.Common.{slice_index, refl, sym, ◌∙◌, ap, arith, []}
use Rattle.byteorder.specs.Endian.{big_bytes, big_number}
use Rattle.byteorder.specs.Numbers.{big_from-bytes}
use Rattle.rfb_pixel.specs.declared.channel.Channel.{Channel}
use Rattle.rfb_pixel.specs.declared.fault.FormatFault.{FormatFault}
use Rattle.rfb_pixel.specs.declared.fault.FormatFault.TheVariants.{BadBits, DepthTooLarge, NotTrueColour, BadMax}
use Rattle.rfb_pixel.specs.declared.fault.FormatFault.TheVariants.{ShiftTooLarge, FieldsOverlap}
use Rattle.std.proofs.lemmas.Bool.Decides.{nat_tests}
use Rattle.std.proofs.Math.Nat.{mod-eq_of_lt}
use Rattle.std.proofs.Math.Pow.{pow_mono}
use Rattle.std.proofs.lemmas.Nat.{pow_below, pow_pos}
use Rattle.std.proofs.lemmas.Bool.{cases_lt, eqb-true, leb-true, le-leb}
use Rattle.rfb_pixel.specs.Channel.{IsField, IsMax, IsMaxOf, EndsWithin, max_of, is_max, width_of, is_apart, is_within}
use Rattle.rfb_pixel.specs.Channel.{are_within, are_apart}
use Rattle.rfb_pixel.specs.bits.Fields.{HasWidth}
use Rattle.rfb_pixel.specs.Format.{PixelFormat, IsApart, IsFormat}
use Rattle.rfb_pixel.specs.FormatBytes.{AreBytes, Spells, number_at, field_at, red_at, green_at, blue_at, first_fault}
use Rattle.rfb_pixel.specs.FormatBytes.{fault_of_fields, Passes, IsFirstFault, format_bytes}
use Rattle.rfb_pixel.proofs.ChannelLemmas.{ones_of_max, same_width, apart-passes, max-passes}

-- fields of one maximum and one shift are one
same_field : (a b : Channel) → max_of a ≡ max_of b → a.shift ≡ b.shift → a ≡ b
same_field a b max shift =
    let width = same_width a.width b.width max in
    λ i. record { width = width i; shift = shift i }

-- sixteen bytes spell one format at most
pub spells-same : (f g : PixelFormat) (bytes : List ℕ) → Spells f bytes → Spells g bytes → f ≡ g
spells-same f g bytes a b =
    let bits : f.bits_per_pixel ≡ g.bits_per_pixel = cc in
    let depth : f.depth ≡ g.depth = cc in
    let order : f.big_endian ≡ g.big_endian = cc in
    let red = same_field f.red g.red (sym a.red_max ∙ b.red_max) (sym a.red_shift ∙ b.red_shift) in
    let green = same_field f.green g.green (sym a.green_max ∙ b.green_max)
    (sym a.green_shift ∙ b.green_shift) in
    let blue = same_field f.blue g.blue (sym a.blue_max ∙ b.blue_max)
    (sym a.blue_shift ∙ b.blue_shift) in
    λ i. record {
      bits_per_pixel = bits i;
      depth = depth i;
      big_endian = order i;
      red = red i;
      green = green i;
      blue = blue i;
    }

-- the maximum of a field passes the test
max_of-passes : (c : Channel) (m : ℕ) → HasWidth c → m ≡ max_of c →
    (is_max m ≡ true) × (width_of m ≡ c.width)
max_of-passes c m wide e =
    let some = pow_below 0 c.width (omega arith) in
    let width : width_of m ≡ c.width = ap width_of e ∙ ones_of_max c.width in
    let same : m ≡ 2 ^ width_of m - 1 = rw width e in
    (grind (arith, nat_tests), width)

-- the field in bytes that spell it
field_at-is : (c : Channel) (max shift : ℕ) (bytes : List ℕ) →
    width_of (number_at max bytes) ≡ c.width → slice_index bytes shift ≡ c.shift →
    field_at max shift bytes ≡ c
field_at-is c max shift bytes w s = λ i. record { width = w i; shift = s i }

-- bytes that spell a format show no fault
pub spells-accepted : (f : PixelFormat) (bytes : List ℕ) → IsFormat f → Spells f bytes →
    first_fault bytes ≡ None
spells-accepted f bytes ok s =
    let bits : (slice_index bytes 0 == 8 || slice_index bytes 0 == 16 || slice_index bytes 0 == 32)
    ≡ true = rw s.bits_per_pixel ok.whole in
    let depth : nat_le (slice_index bytes 1) (slice_index bytes 0) ≡ true =
    grind (arith, nat_tests, ok.deep, s.bits_per_pixel, s.depth) in
    let colour : (slice_index bytes 3 == 0) ≡ false =
    grind (arith, nat_tests, s.true_colour_flag) in
    let red_max =
    max_of-passes f.red (number_at 4 bytes) (omega (arith, ok.red), omega (arith, ok.red))
    s.red_max in
    let green_max =
    max_of-passes f.green (number_at 6 bytes) (omega (arith, ok.green), omega (arith, ok.green))
    s.green_max in
    let blue_max =
    max_of-passes f.blue (number_at 8 bytes) (omega (arith, ok.blue), omega (arith, ok.blue))
    s.blue_max in
    let red_passes = red_max.0 in
    let green_passes = green_max.0 in
    let blue_passes = blue_max.0 in
    let red_is = field_at-is f.red 4 10 bytes red_max.1 s.red_shift in
    let green_is = field_at-is f.green 6 11 bytes green_max.1 s.green_shift in
    let blue_is = field_at-is f.blue 8 12 bytes blue_max.1 s.blue_shift in
    let red_within : is_within (slice_index bytes 0) f.red ≡ true =
    grind (arith, nat_tests, ok.red, s.bits_per_pixel) in
    let green_within : is_within (slice_index bytes 0) f.green ≡ true =
    grind (arith, nat_tests, ok.green, s.bits_per_pixel) in
    let blue_within : is_within (slice_index bytes 0) f.blue ≡ true =
    grind (arith, nat_tests, ok.blue, s.bits_per_pixel) in
    let red_green =
    apart-passes f.red f.green (omega (arith, ok.red)) (omega (arith, ok.green)) ok.red_green in
    let red_blue =
    apart-passes f.red f.blue (omega (arith, ok.red)) (omega (arith, ok.blue)) ok.red_blue in
    let green_blue =
    apart-passes f.green f.blue (omega (arith, ok.green)) (omega (arith, ok.blue))
    ok.green_blue in
    let fields : fault_of_fields (slice_index bytes 0) (red_at bytes) (green_at bytes)
    (blue_at bytes) ≡ fault_of_fields (slice_index bytes 0) f.red f.green f.blue =
    λ i. fault_of_fields (slice_index bytes 0) (red_is i) (green_is i) (blue_is i) in
    let none : fault_of_fields (slice_index bytes 0) f.red f.green f.blue ≡ None =
    rw (red_within, green_within, blue_within, red_green, red_blue, green_blue) refl in
    rw (bits, depth, colour, red_passes, green_passes, blue_passes) (fields ∙ none)

-- ---- the first check that fails

-- a check that comes first gives its fault where it fails, and else the rest gives one
first_of : (t : Bool) (fault k : FormatFault) (rest : Option FormatFault) →
    (if t then Some fault else rest) ≡ Some k →
    ((t ≡ true) × (fault ≡ k)) ⊎ ((t ≡ false) × (rest ≡ Some k))
first_of true fault k rest h = inl (refl, cc)
first_of false fault k rest h = inr (refl, h)

not-true : (b : Bool) → not b ≡ true → b ≡ true → ⊥
not-true true h e = cc
not-true false h e = cc

not-false : (b : Bool) → not b ≡ false → b ≡ true
not-false true h = refl
not-false false h = cc

all_three : (a b c : Bool) → (a && b && c) ≡ true → (a ≡ true) × (b ≡ true) × (c ≡ true)
all_three true true true h = (refl, refl, refl)
all_three true true false h = cc
all_three true false c h = cc
all_three false b c h = cc

-- a 16-bit number is below 2^16
number_at-fits : (bytes : List ℕ) (i : ℕ) → AreBytes bytes → number_at i bytes < 2 ^ 16
number_at-fits bytes i fits =
    let high : slice_index (drop i bytes) 0 < 256 = rw get_or-drop (fits (i + 0)) in
    let low : slice_index (drop i bytes) 1 < 256 = rw get_or-drop (fits (i + 1)) in
    omega arith

-- a maximum of 16 bits that passes the test is one, and N is the number of its ones
passes-max : (m : ℕ) → m < 2 ^ 16 → is_max m ≡ true → IsMaxOf m (width_of m)
passes-max m fits h =
    let width = width_of m in
    let some : 0 < m = grind (arith, nat_tests) in
    let is : m ≡ 2 ^ width - 1 = grind (arith, nat_tests) in
    let low : 1 ≤ width = elim (cases_lt 0 width) [
      | inl more ↦ more
      | inr none ↦
          let zero_wide : width ≡ 0 = omega arith in
          let nothing = ap (λ (n : ℕ). 2 ^ n - 1) zero_wide in
          absurd (omega arith)
    ] in
    let high : width ≤ 16 = elim (cases_lt 16 width) [
      | inl over ↦ let more = pow_below 16 width over in absurd (omega arith)
      | inr within ↦ within
    ] in
    (low, high, is)

-- a maximum passes the test
max-is_max : (m : ℕ) → IsMax m → is_max m ≡ true
max-is_max m max =
    let passes = max-passes m max in
    let same : m ≡ 2 ^ width_of m - 1 = passes.1 in
    grind (arith, nat_tests)

-- a field whose end passes the test ends within the pixel
ends-within : (m shift bits : ℕ) → nat_le (shift + width_of m) bits ≡ true → EndsWithin m shift bits
ends-within m shift bits h = λ n is.
    let width : width_of m ≡ n = ap width_of is.2 ∙ ones_of_max n in
    omega (arith, leb-true (shift + width_of m) bits h)

-- after the maxima: the ends, and then what two fields share
fields-reason : (bytes : List ℕ) (k : FormatFault) → Passes BadBits bytes →
    Passes DepthTooLarge bytes → Passes NotTrueColour bytes →
    IsMaxOf (number_at 4 bytes) (width_of (number_at 4 bytes)) →
    IsMaxOf (number_at 6 bytes) (width_of (number_at 6 bytes)) →
    IsMaxOf (number_at 8 bytes) (width_of (number_at 8 bytes)) →
    fault_of_fields (slice_index bytes 0) (red_at bytes) (green_at bytes)
    (blue_at bytes) ≡ Some k → IsFirstFault k bytes
fields-reason bytes k whole deep colour red green blue h =
    let bits = slice_index bytes 0 in
    let maxima : Passes BadMax bytes =
    (record { n = _; is = red }, record { n = _; is = green }, record { n = _; is = blue }) in
    elim (first_of (not (are_within bits (red_at bytes) (green_at bytes) (blue_at bytes)))
    ShiftTooLarge k _ h) [
      | inl t ↦ subst (λ (x : FormatFault). IsFirstFault x bytes) t.1 (record {
        before = (whole, deep, colour, maxima);
        fails = λ ends.
            let r = ends.0 (width_of (number_at 4 bytes)) red in
            let g = ends.1 (width_of (number_at 6 bytes)) green in
            let b = ends.2 (width_of (number_at 8 bytes)) blue in
            let within : are_within bits (red_at bytes) (green_at bytes) (blue_at bytes) ≡ true =
            grind (arith, nat_tests) in
            not-true _ t.0 within;
      })
      | inr w ↦
          let ends = all_three (is_within bits (red_at bytes)) (is_within bits (green_at bytes))
          (is_within bits (blue_at bytes)) (not-false _ w.0) in
          let within : Passes ShiftTooLarge bytes =
          (ends-within _ _ _ ends.0, ends-within _ _ _ ends.1, ends-within _ _ _ ends.2) in
          elim (first_of (not (are_apart (red_at bytes) (green_at bytes) (blue_at bytes)))
          FieldsOverlap k _ w.1) [
            | inl t ↦ subst (λ (x : FormatFault). IsFirstFault x bytes) t.1 (record {
              before = (whole, deep, colour, maxima, within);
              fails = λ apart.
                  let one = apart-passes (red_at bytes) (green_at bytes) red.0 green.0 apart.0 in
                  let two = apart-passes (red_at bytes) (blue_at bytes) red.0 blue.0 apart.1 in
                  let three = apart-passes (green_at bytes) (blue_at bytes) green.0 blue.0
                  apart.2 in
                  let all : are_apart (red_at bytes) (green_at bytes) (blue_at bytes) ≡ true =
                  rw (one, two, three) refl in
                  not-true _ t.0 all;
            })
            | inr none ↦ absurd (cc none.1)
          ]
    ]

-- after the flag: the maxima, and then the fields
maxima-reason : (bytes : List ℕ) (k : FormatFault) → AreBytes bytes → Passes BadBits bytes →
    Passes DepthTooLarge bytes → Passes NotTrueColour bytes →
    (if not (is_max (number_at 4 bytes) && is_max (number_at 6 bytes)
    && is_max (number_at 8 bytes)) then Some BadMax
    else fault_of_fields (slice_index bytes 0) (red_at bytes) (green_at bytes)
    (blue_at bytes)) ≡ Some k → IsFirstFault k bytes
maxima-reason bytes k fits whole deep colour h =
    let red = number_at 4 bytes in
    let green = number_at 6 bytes in
    let blue = number_at 8 bytes in
    elim (first_of (not (is_max red && is_max green && is_max blue)) BadMax k _ h) [
      | inl t ↦ subst (λ (x : FormatFault). IsFirstFault x bytes) t.1 (record {
        before = (whole, deep, colour);
        fails = λ maxima.
            let one = max-is_max red maxima.0 in
            let two = max-is_max green maxima.1 in
            let three = max-is_max blue maxima.2 in
            let all : (is_max red && is_max green && is_max blue) ≡ true =
            rw (one, two, three) refl in
            not-true _ t.0 all;
      })
      | inr m ↦
          let maxima = all_three (is_max red) (is_max green) (is_max blue) (not-false _ m.0) in
          fields-reason bytes k whole deep colour
          (passes-max red (number_at-fits bytes 4 fits) maxima.0)
          (passes-max green (number_at-fits bytes 6 fits) maxima.1)
          (passes-max blue (number_at-fits bytes 8 fits) maxima.2) m.1
    ]

-- the fault is of the first check that fails
pub first_fault-reason : (bytes : List ℕ) (k : FormatFault) → AreBytes bytes →
    first_fault bytes ≡ Some k → IsFirstFault k bytes
first_fault-reason bytes k fits h =
    let bits = slice_index bytes 0 in
    let is_whole = bits == 8 || bits == 16 || bits == 32 in
    elim (first_of (not is_whole) BadBits k _ h) [
      | inl t ↦ subst (λ (x : FormatFault). IsFirstFault x bytes) t.1
          (record { before = tt; fails = not-true is_whole t.0 })
      | inr b ↦
          let whole : Passes BadBits bytes = not-false is_whole b.0 in
          elim (first_of (not (nat_le (slice_index bytes 1) bits)) DepthTooLarge k _ b.1) [
            | inl t ↦ subst (λ (x : FormatFault). IsFirstFault x bytes) t.1
                (record { before = whole; fails = λ deep. not-true _ t.0 (le-leb _ _ deep) })
            | inr d ↦
                let deep : Passes DepthTooLarge bytes =
                leb-true (slice_index bytes 1) bits (not-false _ d.0) in
                elim (first_of (slice_index bytes 3 == 0) NotTrueColour k _ d.1) [
                  | inl t ↦ subst (λ (x : FormatFault). IsFirstFault x bytes) t.1
                      (record {
                        before = (whole, deep);
                        fails = λ colour. colour (eqb-true (slice_index bytes 3) 0 t.0);
                      })
                  | inr f ↦
                      let flag = f.0 in
                      let colour : Passes NotTrueColour bytes =
                      λ none. let zero : (slice_index bytes 3 == 0) ≡ true =
                      grind (arith, nat_tests) in absurd (cc (flag, zero)) in
                      maxima-reason bytes k fits whole deep colour f.1
                ]
          ]
    ]

-- where there is no fault, a check that comes first passes, and the rest has none
none_of : (t : Bool) (fault : FormatFault) (rest : Option FormatFault) →
    (if t then Some fault else rest) ≡ None → (t ≡ false) × (rest ≡ None)
none_of true fault rest h = absurd (cc h)
none_of false fault rest h = (refl, h)

-- fields that pass the test share no bit
apart-means : (a b : Channel) → is_apart a b ≡ true → IsApart a b
apart-means a b h = λ i here there. grind (arith, nat_tests)

-- where there is no fault, each check passes
pub first_fault-none : (bytes : List ℕ) (k : FormatFault) → AreBytes bytes →
    first_fault bytes ≡ None → Passes k bytes
first_fault-none bytes k fits h =
    let bits = slice_index bytes 0 in
    let is_whole = bits == 8 || bits == 16 || bits == 32 in
    let red = number_at 4 bytes in
    let green = number_at 6 bytes in
    let blue = number_at 8 bytes in
    let b = none_of (not is_whole) BadBits _ h in
    let d = none_of (not (nat_le (slice_index bytes 1) bits)) DepthTooLarge _ b.1 in
    let f = none_of (slice_index bytes 3 == 0) NotTrueColour _ d.1 in
    let m = none_of (not (is_max red && is_max green && is_max blue)) BadMax _ f.1 in
    let w = none_of (not (are_within bits (red_at bytes) (green_at bytes) (blue_at bytes)))
    ShiftTooLarge _ m.1 in
    let a = none_of (not (are_apart (red_at bytes) (green_at bytes) (blue_at bytes))) FieldsOverlap
    _ w.1 in
    let maxima = all_three (is_max red) (is_max green) (is_max blue) (not-false _ m.0) in
    let ends = all_three (is_within bits (red_at bytes)) (is_within bits (green_at bytes))
    (is_within bits (blue_at bytes)) (not-false _ w.0) in
    let apart = all_three (is_apart (red_at bytes) (green_at bytes))
    (is_apart (red_at bytes) (blue_at bytes)) (is_apart (green_at bytes) (blue_at bytes))
    (not-false _ a.0) in
    let flag = f.0 in
    let colour : Passes NotTrueColour bytes = λ none. let zero : (slice_index bytes 3 == 0) ≡ true =
    grind (arith, nat_tests) in absurd (cc (flag, zero)) in
    elim k as (λ (x : FormatFault). Passes x bytes) [
      | BadBits ↦ not-false is_whole b.0
      | DepthTooLarge ↦ leb-true (slice_index bytes 1) bits (not-false _ d.0)
      | NotTrueColour ↦ colour
      | BadMax ↦ (
        record { n = _; is = passes-max red (number_at-fits bytes 4 fits) maxima.0 },
        record { n = _; is = passes-max green (number_at-fits bytes 6 fits) maxima.1 },
        record { n = _; is = passes-max blue (number_at-fits bytes 8 fits) maxima.2 },
      )
      | ShiftTooLarge ↦
          (ends-within _ _ _ ends.0, ends-within _ _ _ ends.1, ends-within _ _ _ ends.2)
      | FieldsOverlap ↦ (apart-means _ _ apart.0, apart-means _ _ apart.1, apart-means _ _ apart.2)
    ]

-- ---- the bytes that a format is written as

-- the 16-bit number that two bytes begin with
number-of : (n : ℕ) (rest : List ℕ) → n < 65536 → big_number 2 (big_bytes 2 n ++ rest) ≡ n
number-of n rest small = big_from-bytes 2 n rest ∙ mod-eq_of_lt small

-- a field's maximum has 16 bits
max_of-small : (bits : ℕ) (c : Channel) → IsField bits c → max_of c < 65536
max_of-small bits c ok =
    let narrow : c.width ≤ 16 = omega arith in
    let wide : 2 ^ c.width ≤ 2 ^ 16 = pow_mono narrow in
    let some = pow_pos c.width in
    omega (arith, wide)

-- a flag is written as 0 or 1
flag-is : (b : Bool) → not ((if b then 1 else 0) == 0) ≡ b
flag-is true = refl
flag-is false = refl

-- a format is spelled by the bytes that it is written as
pub spells_written : (f : PixelFormat) → IsFormat f → Spells f (format_bytes f)
spells_written f ok = record {
  whole = refl;
  bits_per_pixel = refl;
  depth = refl;
  big_endian_flag = flag-is f.big_endian;
  true_colour_flag = λ zero. cc;
  red_max = number-of (max_of f.red) [] (max_of-small f.bits_per_pixel f.red ok.red);
  green_max = number-of (max_of f.green) [] (max_of-small f.bits_per_pixel f.green ok.green);
  blue_max = number-of (max_of f.blue) [] (max_of-small f.bits_per_pixel f.blue ok.blue);
  red_shift = refl;
  green_shift = refl;
  blue_shift = refl;
}
