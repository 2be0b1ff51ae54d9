-- Words without the bits of others, words that have all bits of a mask, and the next bit of a row.
use Rattle.std.proofs.Common.{ℕ, List, Bool, true, false, ◌≡◌, ◌+◌, ◌-◌, ◌*◌, ◌%◌, ◌^◌, ◌<◌, ◌≤◌, ◌&&◌, not, refl, sym}
use Rattle.std.proofs.Common.{◌∙◌, arith, slice_index_or, slice_set, nat_eq, nat_le, nat_lt, bit_and, length, inl, inr}
use Rattle.std.specs.Int.{w64, bit_not, trailing_zeros}
use Rattle.std.specs.Int.Bits.{and_lt}
use Rattle.std.proofs.lemmas.Bool.{cases_Bool, cases_eq, cases_lt, both_ways, and_parts, and_cases, and_from}
use Rattle.std.proofs.lemmas.Bool.Decides.{nat_tests}
use Rattle.std.proofs.lemmas.Nat.{same_from_place, div-mul-add, mod-mul-add}
use Rattle.std.proofs.lemmas.Nat.Bits.{bit_at_and, bit_at_not, bit_at-lt, bit_at-zero, same_from_bits_below}
use Rattle.std.proofs.lemmas.Nat.Bits.{bit_at_clear_same, bit_at_clear_other}
use Rattle.std.proofs.lemmas.List.{get_or-set_same, get_or-set_other}
use Rattle.rfb_picture.specs.declared.rect.Rect.{Rect}
use Rattle.rfb_picture.specs.Rect.{contains}
use Rattle.rfb_picture.specs.Places.{has_bit}
use Rattle.rfb_picture.specs.layout.Plane.{has_at, has_place, HasMasked}
use Rattle.rfb_picture.specs.layout.Marks.{IsNext}
use Rattle.rfb_picture.proofs.GridLemmas.{contains_true, contains_row}
use Rattle.rfb_picture.proofs.GatherLemmas.{first_bit}
use Rattle.rfb_picture.proofs.WordLemmas.{has_bit-and, cases_place, unreached}

-- ---- one word without another's bits

pub and_true : (b : Bool) → (b && true) ≡ b
and_true true = refl
and_true false = refl

-- a bit of a word without the bits of another
pub has_bit-without : (a b i : ℕ) →
    b < 2 ^ 64 → i < 64 → has_bit (bit_and a (bit_not w64 b)) i ≡ (has_bit a i && not (has_bit b i))
has_bit-without a b i small l =
    rw (bit_at_and, bit_at_not w64 b i small l)
    (grind (arith, nat_tests, bit_at-lt a i, bit_at-lt b i))

-- a word without one bit
pub has_bit-less : (a k i : ℕ) →
    k < 64 →
    i < 64 →
    has_bit (bit_and a (bit_not w64 (1 * 2 ^ k % 2 ^ 64))) i ≡ (has_bit a i && not (nat_eq i k))
has_bit-less a k i low l =
    elim (cases_eq i k) [
      | inl e ↦
          let none = bit_at_clear_same w64 a k low in
          rw (e, none) (grind (arith, nat_tests))
      | inr other ↦
          let same = bit_at_clear_other w64 a k low i l other in
          rw same (grind (arith, nat_tests))
    ]

-- ---- rows of words without those of others

-- a word that a row more reaches
taken_here : (test now before first o : Bool) (was_in is_in : Bool) →
    was_in ≡ false →
    is_in ≡ true →
    before ≡ (first && not (was_in && o)) →
    now ≡ (before && not o) →
    now ≡ (first && not (is_in && o))
taken_here test now before first o was_in is_in none some was here =
    rw some (here ∙ (rw (was, none, and_true) refl))

-- with the word of one row more
pub one_row_taken : (words first other : List ℕ) (across column top row k y i : ℕ) →
    column < across →
    k < across →
    i < 64 →
    row * across + column < length words →
    slice_index_or other (row * across + column) 0 < 2 ^ 64 →
    top ≤ row →
    has_at words across y k i
    ≡ (has_at first across y k i
    && not ((nat_eq k column && (nat_le top y && nat_lt y row))
    && has_at other across y k i)) →
    has_at (slice_set words (row * across + column)
    (bit_and (slice_index_or words (row * across + column) 0)
    (bit_not w64 (slice_index_or other (row * across + column) 0)))) across y k i
    ≡ (has_at first across y k i
    && not ((nat_eq k column && (nat_le top y && nat_lt y (row + 1)))
    && has_at other across y k i))
one_row_taken words first other across column top row k y i p q small_i l small from was =
    let value = bit_and (slice_index_or words (row * across + column) 0)
    (bit_not w64 (slice_index_or other (row * across + column) 0)) in
    elim (cases_place k column y row) [
      | inl same ↦
          let e = same.0 in
          let f = same.1 in
          let index : y * across + k ≡ row * across + column = rw (e, f) refl in
          let here : has_at (slice_set words (row * across + column) value) across y k i
          ≡ (has_at words across y k i && not (has_at other across y k i)) =
          rw (
            index,
            get_or-set_same words (row * across + column) value 0 l,
            has_bit-without (slice_index_or words (row * across + column) 0)
                (slice_index_or other (row * across + column) 0) i small small_i,
          ) refl in
          let none : (nat_eq k column && (nat_le top y && nat_lt y row)) ≡ false =
          grind (arith, nat_tests) in
          let some : (nat_eq k column && (nat_le top y && nat_lt y (row + 1))) ≡ true =
          grind (arith, nat_tests) in
          taken_here true _ _ (has_at first across y k i) (has_at other across y k i) _ _ none some
          was here
      | inr apart ↦
          let elsewhere : (y * across + k ≡ row * across + column) → ⊥ =
          λ e. let place = same_from_place y k row column across q p e in apart place.1 place.0 in
          rw (
            get_or-set_other words (row * across + column) (y * across + k) value 0 elsewhere,
            ← unreached k column y top row apart,
          ) was
    ]

-- with the words of one column more
pub one_column_taken : (column k : ℕ) (t now before first o : Bool) →
    before ≡ (first && not ((nat_lt k column && t) && o)) →
    now ≡ (before && not ((nat_eq k column && t) && o)) →
    now ≡ (first && not ((nat_lt k (column + 1) && t) && o))
one_column_taken column k t now before first o was here =
    elim (cases_eq k column) [
      | inl e ↦
          let old : nat_lt k column ≡ false = grind (arith, nat_tests) in
          let new : nat_lt k (column + 1) ≡ true = grind (arith, nat_tests) in
          let test : nat_eq k column ≡ true = grind (arith, nat_tests) in
          rw new (here ∙ (rw (was, old, test, and_true) refl))
      | inr other ↦
          let same : nat_lt k (column + 1) ≡ nat_lt k column = grind (arith, nat_tests) in
          let test : nat_eq k column ≡ false = grind (arith, nat_tests) in
          rw same (here ∙ (rw (was, test, and_true) refl))
    ]

-- ---- a mask's bits

-- a word that the mask leaves the mask of has its bits
pub covered : (word mask i : ℕ) → bit_and word mask ≡ mask → has_bit mask i ≡ true →
    has_bit word i ≡ true
covered word mask i e h =
    let both : has_bit (bit_and word mask) i ≡ true = rw e h in
    let split = and_parts (has_bit word i) (has_bit mask i) (rw has_bit-and at both) in
    split.0

-- and one that has them is left that
pub covers : (word mask : ℕ) →
    word < 2 ^ 64 →
    mask < 2 ^ 64 →
    ((i : ℕ) → i < 64 → has_bit mask i ≡ true → has_bit word i ≡ true) →
    bit_and word mask ≡ mask
covers word mask small_word small each =
    same_from_bits_below 64 (bit_and word mask) mask (and_lt 64 word mask small_word small) small
    (λ i l.
    elim (cases_Bool (has_bit mask i)) [
      | inl e ↦ let w = each i l e in rw bit_at_and (grind (arith, nat_tests))
      | inr e ↦ rw bit_at_and (grind (arith, nat_tests, bit_at-lt word i, bit_at-lt mask i))
    ])

-- ---- a place and its bit

-- bit i of word k is that of place k * 64 + i
pub bit_of_place : (words : List ℕ) (across k i y : ℕ) →
    i < 64 → has_place words across (k * 64 + i) y ≡ has_at words across y k i
bit_of_place words across k i y l = rw (div-mul-add k 64 i l, mod-mul-add k 64 i l) refl

-- the bits that a rectangle has in a column of words are set where its places' are
pub masked_of_places : (words : List ℕ) (across column mask : ℕ) (r : Rect) →
    ((i : ℕ) → i < 64 →
    has_bit mask i ≡ (nat_le r.x (column * 64 + i) && nat_lt (column * 64 + i) (r.x + r.w))) →
    ((x y : ℕ) → contains r x y ≡ true → has_place words across x y ≡ true) →
    HasMasked words across column mask r.y (r.y + r.h)
masked_of_places words across column mask r is all =
    λ y i from to l set.
    let (low, high) =
    and_parts (nat_le r.x (column * 64 + i)) (nat_lt (column * 64 + i) (r.x + r.w))
    (sym (is i l) ∙ set) in
    let inside =
    contains_row r (column * 64 + i) y (grind (arith, nat_tests)) (grind (arith, nat_tests))
    from to in
    sym (bit_of_place words across column i y l) ∙ all (column * 64 + i) y inside

-- and the other way round
pub place_of_masked : (words : List ℕ) (across column mask : ℕ) (r : Rect) (x y : ℕ) →
    ((i : ℕ) → i < 64 →
    has_bit mask i ≡ (nat_le r.x (column * 64 + i) && nat_lt (column * 64 + i) (r.x + r.w))) →
    HasMasked words across column mask r.y (r.y + r.h) →
    column * 64 ≤ x →
    x < column * 64 + 64 →
    contains r x y ≡ true →
    has_place words across x y ≡ true
place_of_masked words across column mask r x y is masked from to c =
    let (x0, x1, y0, y1) = contains_true r x y c in
    let place : column * 64 + (x - column * 64) ≡ x = omega arith in
    let bit : has_bit mask (x - column * 64) ≡ true =
    is (x - column * 64) (omega arith) ∙ (rw place (grind (arith, nat_tests))) in
    let there = bit_of_place words across column (x - column * 64) y (omega arith) in
    rw place at there ∙ masked y (x - column * 64) y0 y1 (omega arith) bit

-- ---- the next place of a row

-- the lowest bit that is left of a word is the next place
pub next_here : (words : List ℕ) (across row from to column mask : ℕ) →
    ((i : ℕ) → i < 64 →
    has_bit mask i ≡ (nat_le from (column * 64 + i) && nat_lt (column * 64 + i) to)) →
    ((x : ℕ) → from ≤ x → x < to → x < column * 64 → has_place words across x row ≡ false) →
    (bit_and (slice_index_or words (row * across + column) 0) mask ≡ 0 → ⊥) →
    bit_and (slice_index_or words (row * across + column) 0) mask < 2 ^ 64 →
    IsNext (has_place words across) row from to
    (column * 64
    + trailing_zeros w64 (bit_and (slice_index_or words (row * across + column) 0) mask))
next_here words across row from to column mask is before some small =
    let word = slice_index_or words (row * across + column) 0 in
    let first = first_bit (bit_and word mask) (omega arith) small in
    let i = trailing_zeros w64 (bit_and word mask) in
    let (set, masked) = and_parts (has_bit word i) (has_bit mask i) (rw has_bit-and at first.1) in
    let (low, high) =
    and_parts (nat_le from (column * 64 + i)) (nat_lt (column * 64 + i) to)
    (sym (is i first.0) ∙ masked) in
    record {
      after = grind (arith, nat_tests);
      before = grind (arith, nat_tests);
      none = λ x p l.
          elim (cases_lt x (column * 64)) [
            | inl left ↦ before x p (grind (arith, nat_tests)) left
            | inr right ↦
                let place : column * 64 + (x - column * 64) ≡ x = omega arith in
                let there = bit_of_place words across column (x - column * 64) row
                (omega (arith, first.0)) in
                let here = rw place at there in
                let far : (has_bit (bit_and word mask) (x - column * 64) ≡ true) → ⊥ =
                λ e. let after = first.2 (x - column * 64) e in omega (arith, after) in
                let bit : has_bit mask (x - column * 64) ≡ true =
                is (x - column * 64) (omega (arith, first.0))
                ∙ (rw place (grind (arith, nat_tests))) in
                elim (cases_Bool (has_bit word (x - column * 64))) [
                  | inl e ↦ absurd (far (rw has_bit-and (and_from _ _ e bit)))
                  | inr e ↦ here ∙ e
                ]
          ];
      here = bit_of_place words across column i row first.0 ∙ set;
    }

-- where none is left, the word's places are not set
pub none_here : (words : List ℕ) (across row from to column mask x : ℕ) →
    ((i : ℕ) → i < 64 →
    has_bit mask i ≡ (nat_le from (column * 64 + i) && nat_lt (column * 64 + i) to)) →
    bit_and (slice_index_or words (row * across + column) 0) mask ≡ 0 →
    from ≤ x →
    x < to →
    column * 64 ≤ x →
    x < column * 64 + 64 →
    has_place words across x row ≡ false
none_here words across row from to column mask x is none p l left right =
    let word = slice_index_or words (row * across + column) 0 in
    let i = x - column * 64 in
    let place : column * 64 + (x - column * 64) ≡ x = omega arith in
    let there = bit_of_place words across column (x - column * 64) row (omega arith) in
    let here = rw place at there in
    let zero : has_bit (bit_and word mask) (x - column * 64) ≡ false =
    rw (none, bit_at-zero (x - column * 64)) refl in
    let bit : has_bit mask (x - column * 64) ≡ true =
    is (x - column * 64) (omega arith) ∙ (rw place (grind (arith, nat_tests))) in
    elim (and_cases (has_bit word (x - column * 64)) (has_bit mask (x - column * 64))
    (rw has_bit-and at zero)) [
      | inl e ↦ here ∙ e
      | inr e ↦ absurd (both_ways _ e bit)
    ]

-- nor are those of a word with no bit
pub none_in_word : (words : List ℕ) (across row column x : ℕ) →
    slice_index_or words (row * across + column) 0 ≡ 0 →
    column * 64 ≤ x →
    x < column * 64 + 64 →
    has_place words across x row ≡ false
none_in_word words across row column x none left right =
    let place : column * 64 + (x - column * 64) ≡ x = omega arith in
    let there = bit_of_place words across column (x - column * 64) row (omega arith) in
    let here = rw place at there in
    let zero : has_bit (slice_index_or words (row * across + column) 0) (x - column * 64) ≡ false =
    rw (none, bit_at-zero (x - column * 64)) refl in
    here ∙ zero
