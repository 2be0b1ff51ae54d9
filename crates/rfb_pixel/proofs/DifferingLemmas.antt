-- Which places of two rows differ, as bits of a word, some at once.
use Rattle.std.proofs.Common.{zero, suc, ◌≡◌, ◌∙◌, ℕ, ◌+◌, ◌-◌, ◌*◌, ◌%◌, ◌^◌, ◌<◌, ◌≤◌, ◌==◌, ◌&&◌, ◌||◌, List, Bool}
use Rattle.std.proofs.Common.{true, false, cond, not, nat_eq, nat_lt, bit_or, length, map, slice_index, sym, ap, refl}
use Rattle.std.proofs.Common.{inl, inr, arith}
use Rattle.std.specs.Int.{bit_at}
use Rattle.std.proofs.lemmas.Bool.{cases_lt}
use Rattle.std.proofs.lemmas.Bool.Decides.{nat_tests}
use Rattle.std.proofs.lemmas.Nat.{pow_pos, shl_whole}
use Rattle.std.proofs.lemmas.Nat.Bits.{bit_at_or, bit_at-lt, bit_at_cat_low, bit_at_cat_high, bit_at_above, bit_at-zero}
use Rattle.std.proofs.lemmas.Simd.{tops_compared, mask_l-mod, mask_l-lt, bit_mask_l, get_or-zip2, get_or-chunk}
use Rattle.std.proofs.lemmas.Simd.{length-zip2, length-chunk}
use Rattle.std.proofs.Math.Dec.{eqb}
use Rattle.rfb_pixel.proofs.LaneLemmas.{differ}
use lib.Lanes.{mask_l, zip2, chunk, top}
use lib.ListN.{get_or}
use mir.Syntax.{w32}
use mir.Val.{bits, bool_byte, hbits}

one_tells : (b : Bool) → nat_eq (cond b 1 0) 1 ≡ b
one_tells true = refl
one_tells false = refl

-- sixteen lanes of each
length-differ : (xs ys : List ℕ) (at : ℕ) → at + 16 ≤ length xs → at + 16 ≤ length ys →
    length (differ (chunk at 16 xs) (chunk at 16 ys)) ≡ 16
length-differ xs ys at left right =
    let long_x = length-chunk at 16 xs left in
    let long_y = length-chunk at 16 ys right in
    length-zip2 (λ a b. not (eqb a b)) (chunk at 16 xs) (chunk at 16 ys) (long_x ∙ sym long_y) ∙ long_x

pub sixteen_is : (xs ys : List ℕ) (at : ℕ) → at + 16 ≤ length xs → at + 16 ≤ length ys →
    mask_l (map (top (hbits w32))
    (zip2 (λ a b. cond (not (eqb a b)) (2 ^ bits w32 - 1) 0) (chunk at 16 xs) (chunk at 16 ys))) % 2 ^ 64
    ≡ mask_l (differ (chunk at 16 xs) (chunk at 16 ys))
sixteen_is xs ys at left right =
    let ms = differ (chunk at 16 xs) (chunk at 16 ys) in
    let long = length-differ xs ys at left right in
    ap (λ ms. mask_l ms % 2 ^ 64) (tops_compared w32 (λ a b. not (eqb a b)) (chunk at 16 xs) (chunk at 16 ys))
    ∙ mask_l-mod ms 64 (omega (arith, long))

pub sixteen_bound : (xs ys : List ℕ) (at : ℕ) → at + 16 ≤ length xs → at + 16 ≤ length ys →
    mask_l (differ (chunk at 16 xs) (chunk at 16 ys)) < 2 ^ 16
sixteen_bound xs ys at left right =
    let less = mask_l-lt (differ (chunk at 16 xs) (chunk at 16 ys)) in
    rw (length-differ xs ys at left right) at less

pub sixteen_bits : (xs ys : List ℕ) (at i : ℕ) → at + 16 ≤ length xs → at + 16 ≤ length ys → i < 16 →
    nat_eq (bit_at (mask_l (differ (chunk at 16 xs) (chunk at 16 ys))) i) 1
    ≡ not (slice_index xs (at + i) == slice_index ys (at + i))
sixteen_bits xs ys at i left right low =
    let long_x = length-chunk at 16 xs left in
    let long_y = length-chunk at 16 ys right in
    let x = get_or-chunk at 16 xs i 0 low in
    let y = get_or-chunk at 16 ys i 0 low in
    let lane =
    get_or-zip2 (λ a b. not (eqb a b)) (chunk at 16 xs) (chunk at 16 ys) i 0 0 false (omega arith) (omega arith) in
    ap (λ n. nat_eq n 1) (bit_mask_l (differ (chunk at 16 xs) (chunk at 16 ys)) i)
    ∙ one_tells (get_or (differ (chunk at 16 xs) (chunk at 16 ys)) i false)
    ∙ lane
    ∙ (λ k. not (eqb (x k) (y k)))

-- ---- a word more

tells_or : (a b i : ℕ) → nat_eq (bit_at (bit_or a b) i) 1 ≡ (nat_eq (bit_at a i) 1 || nat_eq (bit_at b i) 1)
tells_or a b i = rw bit_at_or (grind (arith, nat_tests, bit_at-lt a i, bit_at-lt b i))

or_false : (b : Bool) → (b || false) ≡ b
or_false true = refl
or_false false = refl

shifted : (word n at : ℕ) → word < 2 ^ n → at + n ≤ 64 → word * 2 ^ at % 2 ^ 64 ≡ word * 2 ^ at + 0
shifted word n at less room =
    shl_whole word n at 64 less (omega arith) ∙ omega arith

-- a bit of the word where it is joined
shifted_bit : (word n at i : ℕ) → word < 2 ^ n → at + n ≤ 64 →
    bit_at (word * 2 ^ at % 2 ^ 64) i ≡ bit_at (word * 2 ^ at + 0) i
shifted_bit word n at i less room = ap (λ w. bit_at w i) (shifted word n at less room)

pub joined : (before word n at i : ℕ) (tells : ℕ → Bool) → word < 2 ^ n → at + n ≤ 64 → i < 64 →
    ((j : ℕ) → j < 64 → nat_eq (bit_at before j) 1 ≡ (nat_lt j at && tells j)) →
    ((j : ℕ) → j < n → nat_eq (bit_at word j) 1 ≡ tells (at + j)) →
    nat_eq (bit_at (bit_or before (word * 2 ^ at % 2 ^ 64)) i) 1 ≡ (nat_lt i (at + n) && tells i)
joined before word n at i tells less room low was here =
    tells_or before (word * 2 ^ at % 2 ^ 64) i ∙
    elim (cases_lt i at) [
      | inl below ↦
          let zero_bit : bit_at (word * 2 ^ at % 2 ^ 64) i ≡ 0 =
          shifted_bit word n at i less room ∙ bit_at_cat_low word at 0 i below ∙ bit_at-zero i in
          rw (was i low, zero_bit, or_false) (grind (arith, nat_tests))
      | inr from ↦
          let moved : bit_at (word * 2 ^ at % 2 ^ 64) i ≡ bit_at word (i - at) =
          shifted_bit word n at i less room ∙ bit_at_cat_high word at 0 i (pow_pos at) from in
          let old : (nat_lt i at && tells i) ≡ false = grind (arith, nat_tests) in
          elim (cases_lt i (at + n)) [
            | inl inside ↦
                let place : at + (i - at) ≡ i = omega arith in
                let told : nat_eq (bit_at word (i - at)) 1 ≡ tells i = here (i - at) (omega arith) ∙ ap tells place in
                rw (was i low, old, moved, told) (grind (arith, nat_tests))
            | inr outside ↦
                let none : bit_at word (i - at) ≡ 0 = bit_at_above word n (i - at) less (omega arith) in
                rw (was i low, old, moved, none) (grind (arith, nat_tests))
          ]
    ]

-- one place more
pub one_told : (b : Bool) (j : ℕ) → j < 1 → nat_eq (bit_at (bool_byte b) j) 1 ≡ b
one_told true zero low = refl
one_told false zero low = refl
one_told b (suc j) low = absurd (omega arith)

pub one_small : (b : Bool) → bool_byte b < 2 ^ 1
one_small true = omega arith
one_small false = omega arith
