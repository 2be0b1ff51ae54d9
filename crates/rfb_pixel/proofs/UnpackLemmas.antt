-- Eight pixels' bytes as colours.
use Rattle.std.proofs.Common.{◌≡◌, ◌∙◌, ℕ, ◌+◌, ◌-◌, ◌*◌, ◌/◌, ◌%◌, ◌<◌, ◌≤◌, zero, suc, List, [], ◌∷◌, ◌++◌, drop}
use Rattle.std.proofs.Common.{inl, inr, Bool, true, false, ◌&&◌, nat_lt, take, length, slice_index, slice_index_or}
use Rattle.std.proofs.Common.{slice_set, sym, subst, ap, refl, arith, length-drop}
use Rattle.std.specs.Prelude.{bit_and}
use Rattle.std.proofs.Math.Nat.{mul-le-mul_right}
use Rattle.std.proofs.lemmas.Bool.{cases_lt}
use Rattle.std.proofs.lemmas.Bool.Decides.{nat_tests}
use Rattle.std.proofs.lemmas.List.{drop-drop, drop-take, get_or-drop, get_or-take, get_or_append_left}
use Rattle.std.proofs.lemmas.List.{get_or-append-add, length-take-le}
use Rattle.std.proofs.lemmas.Simd.{below_from_Fits, get_or_wider}
use Rattle.byteorder.specs.Endian.{little_number}
use lib.Lanes.{Each1, digits_l, number_l}
use lib.ListN.{get_or}
use mir.Syntax.{w8}
use mir.Val.{Fits}
use Rattle.rfb_pixel.specs.declared.colour.Colour.{Colour}
use Rattle.rfb_pixel.specs.Channel.{rescaled}
use Rattle.rfb_pixel.specs.Format.{AreColours, PixelFormat, colour_of, pixel_number, rgb888, size_of}
use Rattle.rfb_pixel.specs.bits.Lanes.{AreUnpacked, of_three}
use Rattle.rfb_pixel.proofs.FormatLemmas.{pixel_number-take, same_colour}

-- eight places of a row are written one by one
pub eight_written : (row : List Colour) (a b c d e f g h : Colour) → length row ≡ 8 →
    slice_set (slice_set
    (slice_set (slice_set (slice_set (slice_set (slice_set (slice_set row 0 a) 1 b) 2 c) 3 d) 4 e) 5 f) 6 g) 7 h
    ≡ a ∷ b ∷ c ∷ d ∷ e ∷ f ∷ g ∷ h ∷ []
eight_written [] a b c d e f g h long = absurd (omega arith)
eight_written (s ∷ []) a b c d e f g h long = absurd (omega arith)
eight_written (s ∷ t ∷ []) a b c d e f g h long = absurd (omega arith)
eight_written (s ∷ t ∷ u ∷ []) a b c d e f g h long = absurd (omega arith)
eight_written (s ∷ t ∷ u ∷ v ∷ []) a b c d e f g h long = absurd (omega arith)
eight_written (s ∷ t ∷ u ∷ v ∷ w ∷ []) a b c d e f g h long = absurd (omega arith)
eight_written (s ∷ t ∷ u ∷ v ∷ w ∷ x ∷ []) a b c d e f g h long = absurd (omega arith)
eight_written (s ∷ t ∷ u ∷ v ∷ w ∷ x ∷ y ∷ []) a b c d e f g h long = absurd (omega arith)
eight_written (s ∷ t ∷ u ∷ v ∷ w ∷ x ∷ y ∷ z ∷ []) a b c d e f g h long = refl
eight_written (s ∷ t ∷ u ∷ v ∷ w ∷ x ∷ y ∷ z ∷ more ∷ row) a b c d e f g h long = absurd (omega arith)

-- the colour of the pixel after k others
abbrev pub pixel_colour : PixelFormat → List ℕ → ℕ → Colour
pixel_colour f bytes k = colour_of f (pixel_number f (drop (k * size_of f) bytes))

-- each of eight colours by itself
pub eight_shown : (P : ℕ → Colour → Type 0) (a b c d e f g h : Colour) →
    P 0 a → P 1 b → P 2 c → P 3 d → P 4 e → P 5 f → P 6 g → P 7 h → (k : ℕ) (none : Colour) → k < 8 →
    P k (slice_index_or (a ∷ b ∷ c ∷ d ∷ e ∷ f ∷ g ∷ h ∷ []) k none)
eight_shown P a b c d e f g h is_a is_b is_c is_d is_e is_f is_g is_h zero none below = is_a
eight_shown P a b c d e f g h is_a is_b is_c is_d is_e is_f is_g is_h (suc zero) none below = is_b
eight_shown P a b c d e f g h is_a is_b is_c is_d is_e is_f is_g is_h (suc (suc zero)) none below = is_c
eight_shown P a b c d e f g h is_a is_b is_c is_d is_e is_f is_g is_h (suc (suc (suc zero))) none below = is_d
eight_shown P a b c d e f g h is_a is_b is_c is_d is_e is_f is_g is_h (suc (suc (suc (suc zero)))) none below = is_e
eight_shown P a b c d e f g h is_a is_b is_c is_d is_e is_f is_g is_h (suc (suc (suc (suc (suc zero))))) none below =
    is_f
eight_shown P a b c d e f g h is_a is_b is_c is_d is_e is_f is_g is_h
    (suc (suc (suc (suc (suc (suc zero)))))) none below = is_g
eight_shown P a b c d e f g h is_a is_b is_c is_d is_e is_f is_g is_h
    (suc (suc (suc (suc (suc (suc (suc zero))))))) none below = is_h
eight_shown P a b c d e f g h is_a is_b is_c is_d is_e is_f is_g is_h (suc (suc (suc (suc (suc (suc (suc (suc k))))))))
    none below = absurd (omega arith)

-- each of eight that are written, as the colour of its pixel
pub eight_colours : (f : PixelFormat) (bytes : List ℕ) {l : List Colour} {a b c d e f' g h : Colour} →
    l ≡ a ∷ b ∷ c ∷ d ∷ e ∷ f' ∷ g ∷ h ∷ [] → a ≡ pixel_colour f bytes 0 →
    b ≡ pixel_colour f bytes 1 → c ≡ pixel_colour f bytes 2 → d ≡ pixel_colour f bytes 3 →
    e ≡ pixel_colour f bytes 4 → f' ≡ pixel_colour f bytes 5 → g ≡ pixel_colour f bytes 6 →
    h ≡ pixel_colour f bytes 7 →
    (k : ℕ) (none : Colour) → k < length l → slice_index_or l k none ≡ pixel_colour f bytes k
eight_colours f bytes {l} {a} {b} {c} {d} {e} {f'} {g} {h} written is_a is_b is_c is_d is_e is_f is_g is_h k none =
    subst (λ (l : List Colour). k < length l → slice_index_or l k none ≡ pixel_colour f bytes k) (sym written)
    (eight_shown (λ k x. x ≡ pixel_colour f bytes k) a b c d e f' g h is_a is_b is_c is_d is_e is_f is_g is_h k none)

-- a lane that a pixel is shifted up in, without the bits below a field
abbrev pub upper : ℕ → ℕ → ℕ → ℕ
upper scale low p = (p * scale % 65536 + (65536 - bit_and (p * scale % 65536) low)) % 65536

-- a byte of a pixel of rgb888 as a component
red_in : (b g r x : ℕ) → b < 256 → g < 256 → r < 256 → x < 256 →
    rescaled 255 65535 ((b + 256 * (g + 256 * (r + 256 * (x + 0)))) / 65536 % 256) ≡ 257 * r
red_in b g r x small_b small_g small_r small_x = omega (arith, small_b, small_g, small_r, small_x)

green_in : (b g r x : ℕ) → b < 256 → g < 256 → r < 256 → x < 256 →
    rescaled 255 65535 ((b + 256 * (g + 256 * (r + 256 * (x + 0)))) / 256 % 256) ≡ 257 * g
green_in b g r x small_b small_g small_r small_x = omega (arith, small_b, small_g, small_r, small_x)

blue_in : (b g r x : ℕ) → b < 256 → g < 256 → r < 256 → x < 256 →
    rescaled 255 65535 ((b + 256 * (g + 256 * (r + 256 * (x + 0)))) / 1 % 256) ≡ 257 * b
blue_in b g r x small_b small_g small_r small_x = omega (arith, small_b, small_g, small_r, small_x)

-- two bytes as a number
pub two : (bytes : List ℕ) → 2 ≤ length bytes → number_l 256 (take 2 bytes) ≡ little_number 2 bytes
two [] long = absurd (omega arith)
two (a ∷ []) long = absurd (omega arith)
two (a ∷ b ∷ bytes) long = omega arith

pub numbers_in : (bytes : List ℕ) → length bytes ≡ 16 → Each1 (Fits w8) bytes → (k : ℕ) → k < 8 →
    get_or (digits_l 65536 8 (number_l 256 bytes)) k 0 ≡ little_number 2 (drop (2 * k) bytes)
numbers_in bytes long fit k below =
    get_or_wider 256 2 65536 8 bytes k refl (below_from_Fits w8 bytes fit) below
    ∙ two (drop (2 * k) bytes) (omega (arith, length-drop (2 * k) bytes))

-- a lane of sixteen of the eight pixels' bytes
lane : (from : ℕ) (bytes : List ℕ) (i : ℕ) → from + 16 ≤ length bytes → i < 16 →
    get_or (take 16 (drop from bytes) ++ take 16 (drop from bytes)) i 0 ≡ get_or bytes (from + i) 0
lane from bytes i within low =
    let sixteen = take 16 (drop from bytes) in
    let front : length sixteen ≡ 16 = length-take-le 16 (drop from bytes) (omega
    (arith, within, length-drop from bytes)) in
    get_or_append_left sixteen sixteen 0 i (omega (arith, front, low)) ∙ get_or-take 16 (drop from bytes) i 0 low
    ∙ get_or-drop from bytes i 0

-- a component that has a byte twice
twice_in : (from : ℕ) (bytes : List ℕ) (i n : ℕ) → from + 16 ≤ length bytes → i < 16 →
    n ≡ little_number 2 (get_or (take 16 (drop from bytes) ++ take 16 (drop from bytes)) i 0 ∷ get_or (take 16
    (drop from bytes) ++ take 16 (drop from bytes)) i 0 ∷ []) →
    n ≡ 257 * get_or bytes (from + i) 0
twice_in from bytes i n within low is = omega (arith, is, lane from bytes i within low)

-- bytes of a list, each of them twice
abbrev pub doubled : List ℕ → List ℕ → List ℕ
doubled source [] = []
doubled source (i ∷ places) = get_or source i 0 ∷ get_or source i 0 ∷ doubled source places

-- each place is one of a lane of sixteen
abbrev pub are_low : List ℕ → Bool
are_low [] = true
are_low (i ∷ places) = nat_lt i 16 && are_low places

both_true : (a b : Bool) → (a && b) ≡ true → (a ≡ true) × (b ≡ true)
both_true true b e = (refl, e)
both_true false b e = cc

low_at : (places : List ℕ) (k : ℕ) → k < length places → are_low places ≡ true → slice_index places k < 16
low_at [] k below low = absurd (omega arith)
low_at (i ∷ places) zero below low =
    let first = (both_true (nat_lt i 16) (are_low places) low).0 in grind (arith, nat_tests)
low_at (i ∷ places) (suc k) below low =
    low_at places k (omega arith) (both_true (nat_lt i 16) (are_low places) low).1

doubled_at : (source places : List ℕ) (k : ℕ) → k < length places →
    little_number 2 (drop (2 * k) (doubled source places))
    ≡ little_number 2 (get_or source (slice_index places k) 0 ∷ get_or source (slice_index places k) 0 ∷ [])
doubled_at source [] k below = absurd (omega arith)
doubled_at source (i ∷ places) zero below = refl
doubled_at source (i ∷ places) (suc k) below =
    let far : 2 * suc k ≡ suc (suc (2 * k)) = omega arith in rw far (doubled_at source places k (omega arith))

-- the components of eight such bytes, of a vector
abbrev pub AreTwice : ℕ → List ℕ → List ℕ → List ℕ → Type 0
AreTwice from bytes places components =
    (k : ℕ) → k < 8 → slice_index components k
    ≡ little_number 2 (drop (2 * k) (doubled (take 16 (drop from bytes) ++ take 16 (drop from bytes)) places))

pub components_twice : (from : ℕ) (bytes places components : List ℕ) → from + 16 ≤ length bytes →
    length places ≡ 8 → are_low places ≡ true → AreTwice from bytes places components →
    (k : ℕ) → k < 8 → slice_index components k ≡ 257 * get_or bytes (from + slice_index places k) 0
components_twice from bytes places components within eight low is k below =
    twice_in from bytes (slice_index places k) (slice_index components k) within
    (low_at places k (omega (arith, eight, below)) low)
    (is k below ∙ doubled_at (take 16 (drop from bytes) ++ take 16 (drop from bytes)) places k
    (omega (arith, eight, below)))

-- three components are the colour of the pixel whose bytes they have
pub shown : (bytes : List ℕ) (at r g b : ℕ) → ((i : ℕ) → Fits w8 (get_or bytes i 0)) →
    r ≡ 257 * get_or bytes (at + 2) 0 → g ≡ 257 * get_or bytes (at + 1) 0 → b ≡ 257 * get_or bytes (at + 0) 0 →
    of_three r g b ≡ colour_of rgb888 (pixel_number rgb888 (drop at bytes))
shown bytes at r g b fit red green blue =
    let byte = λ (i : ℕ). get_or bytes (at + i) 0 in
    let small = λ (i : ℕ). (fit (at + i)).fits in
    let is = λ (i : ℕ). get_or-drop at bytes i 0 in
    same_colour _ (colour_of rgb888 (pixel_number rgb888 (drop at bytes)))
    (red ∙ sym (rw (is 0, is 1, is 2, is 3)
    (red_in (byte 0) (byte 1) (byte 2) (byte 3) (small 0) (small 1) (small 2) (small 3))))
    (green ∙ sym (rw (is 0, is 1, is 2, is 3)
    (green_in (byte 0) (byte 1) (byte 2) (byte 3) (small 0) (small 1) (small 2) (small 3))))
    (blue ∙ sym (rw (is 0, is 1, is 2, is 3)
    (blue_in (byte 0) (byte 1) (byte 2) (byte 3) (small 0) (small 1) (small 2) (small 3))))

-- ---- part by part

-- eight colours more, of the bytes of a part
pub unpacked_more : (f : PixelFormat) (at size : ℕ) (bytes : List ℕ) (row eight rest : List Colour) →
    size ≡ size_of f → length eight ≡ 8 → at ≤ length row → AreUnpacked f at bytes row →
    AreColours f (take (at * size + 8 * size - at * size) (drop (at * size) bytes)) eight →
    AreUnpacked f (at + 8) bytes (take at row ++ (eight ++ rest))
unpacked_more f at size bytes row eight rest size_is long within before is = λ k d below.
    let from = at * size in
    let m = at * size + 8 * size - at * size in
    let start : from ≡ at * size_of f = ap (λ (n : ℕ). at * n) size_is in
    let part : m ≡ 8 * size_of f = rw size_is (omega arith) in
    let front : length (take at row) ≡ at = length-take-le at row within in
    elim (cases_lt k at) [
      | inl low ↦
          get_or_append_left (take at row) (eight ++ rest) d k (omega (arith, front, low))
          ∙ get_or-take at row k d low ∙ before k d low
      | inr high ↦
          let i = k - at in
          let n = i * size_of f in
          let place : at + i ≡ k = omega (arith, high) in
          let fits : (i + 1) * size_of f ≤ 8 * size_of f =
          mul-le-mul_right (size_of f) (omega (arith, place, below)) in
          let split : n + (m - n) ≡ m = omega (arith, part, fits) in
          let there : from + n ≡ k * size_of f =
          rw start (sym (ap (λ (j : ℕ). j * size_of f) (sym place) ∙ omega arith)) in
          ap (λ j. slice_index_or (take at row ++ (eight ++ rest)) j d) (sym (ap (λ j. j + i) front ∙ place))
          ∙ get_or-append-add (take at row) (eight ++ rest) i d
          ∙ get_or_append_left eight rest d i (omega (arith, long, place, below))
          ∙ is i d (omega (arith, long, place, below))
          ∙ ap (colour_of f) (ap (pixel_number f) (ap (λ j. drop n (take j (drop from bytes))) (sym split)
          ∙ drop-take n (m - n) (drop from bytes))
          ∙ pixel_number-take f (drop n (drop from bytes)) (m - n) (omega (arith, part, fits))
          ∙ ap (pixel_number f) (drop-drop n from bytes ∙ ap (λ j. drop j bytes) there))
    ]
