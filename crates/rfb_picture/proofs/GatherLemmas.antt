-- Bits of words one above the other, put together: which columns have one,
-- and the first and last row.
use Rattle.std.proofs.Common.{ℕ, suc, Bool, true, false, ◌≡◌, ◌+◌, ◌-◌, ◌*◌, ◌/◌, ◌^◌, ◌<◌, ◌≤◌, refl, arith, bit_and}
use Rattle.std.proofs.Common.{List, slice_index_or, inl, inr, bit_or}
use Rattle.std.specs.Int.{w64, trailing_zeros, leading_zeros}
use Rattle.std.proofs.Math.Nat.{one-mul, pow-suc}
use Rattle.std.proofs.lemmas.Bool.{cases_lt, cases_eq, both_ways, and_parts, and_from, false_from_ne_true}
use Rattle.std.proofs.lemmas.Bool.{or_cases, or_left, or_right}
use Rattle.std.proofs.lemmas.Nat.{leading_top, le-div, div_below, pow_pos}
use Rattle.std.proofs.lemmas.Nat.Bits.{bit_at-trailing_zeros, bit_at_above, bit_at-zero}
use Rattle.rfb_picture.specs.Places.{has_bit}
use Rattle.rfb_picture.specs.layout.Plane.{has_at, has_masked}
use Rattle.rfb_picture.specs.layout.Edges.{NoMarks, HasMark, IsFirstRow, IsLastRow, HasAllBits, IsGathered}
use Rattle.rfb_picture.specs.layout.Edges.{HasNoOtherBits}
use Rattle.rfb_picture.proofs.WordLemmas.{has_bit-and, has_bit-or}

-- ---- one word

-- a word with a bit is not 0
pub some_bit : (n i : ℕ) → has_bit n i ≡ true → 0 < n
some_bit n i e =
    elim (cases_eq n 0) [
      | inl zero ↦
          let none : has_bit n i ≡ false = rw (zero, bit_at-zero i) refl in
          absurd (both_ways (has_bit n i) none e)
      | inr other ↦ omega arith
    ]

-- its lowest bit
pub first_bit : (n : ℕ) →
    0 < n →
    n < 2 ^ 64 →
    (trailing_zeros w64 n < 64) × (has_bit n (trailing_zeros w64 n) ≡ true)
    × ((i : ℕ) → has_bit n i ≡ true → trailing_zeros w64 n ≤ i)
first_bit n some small =
    let first = bit_at-trailing_zeros w64 n some small in
    let there : has_bit n (trailing_zeros w64 n) ≡ true = rw (first.1) refl in (
      first.0,
      there,
      λ i e.
          elim (cases_lt i (trailing_zeros w64 n)) [
            | inl l ↦
                let none : has_bit n i ≡ false = rw (first.2 i l) refl in
                absurd (both_ways (has_bit n i) none e)
            | inr l ↦ l
          ],
    )

pow_more : (j : ℕ) → 2 ^ suc j ≡ 2 * 2 ^ j
pow_more j = omega (arith, pow-suc 2 j)

-- its highest bit
pub last_bit : (n : ℕ) →
    0 < n →
    n < 2 ^ 64 →
    (leading_zeros w64 n ≤ 63) × (has_bit n (63 - leading_zeros w64 n) ≡ true)
    × ((i : ℕ) → has_bit n i ≡ true → i ≤ 63 - leading_zeros w64 n)
last_bit n some small =
    let top = leading_top 64 n some small in
    let j = top.0 in
    let is : 63 - leading_zeros w64 n ≡ j = omega (arith, top.1) in
    let low : leading_zeros w64 n ≤ 63 = omega (arith, top.1) in
    let one_or_more : 1 ≤ n / 2 ^ j = le-div 1 n (2 ^ j) (pow_pos j) (rw one-mul top.2) in
    let twice : 2 ^ suc j ≡ 2 * 2 ^ j = pow_more j in
    let one_or_less : n / 2 ^ j < 2 = div_below n (2 ^ j) 2 (pow_pos j) (rw (← twice) top.3) in
    let one : n / 2 ^ j ≡ 1 = omega arith in
    let there : has_bit n j ≡ true = rw one refl in
    let last : (i : ℕ) → has_bit n i ≡ true → i ≤ j =
    λ i e.
    elim (cases_lt j i) [
      | inl l ↦
          let none : has_bit n i ≡ false = rw (bit_at_above n (suc j) i top.3 (omega arith)) refl in
          absurd (both_ways (has_bit n i) none e)
      | inr l ↦ l
    ] in
    (low, rw is there, rw is last)

-- ---- words one above the other

-- what a mask leaves of a word is a mark of its row
pub some_masked : (words : List ℕ) (across column mask row : ℕ) →
    (bit_and (slice_index_or words (row * across + column) 0) mask ≡ 0 → ⊥) →
    bit_and (slice_index_or words (row * across + column) 0) mask < 2 ^ 64 →
    HasMark (has_masked words across column mask) row
some_masked words across column mask row some small =
    let word = slice_index_or words (row * across + column) 0 in
    let first = first_bit (bit_and word mask) (omega arith) small in
    let i = trailing_zeros w64 (bit_and word mask) in
    (i, first.0, rw has_bit-and at first.1)

-- where it leaves nothing, there is none
pub none_masked : (words : List ℕ) (across column mask row i : ℕ) →
    bit_and (slice_index_or words (row * across + column) 0) mask ≡ 0 →
    has_masked words across column mask row i ≡ false
none_masked words across column mask row i none =
    let zero : has_bit (bit_and (slice_index_or words (row * across + column) 0) mask) i ≡ false =
    rw (none, bit_at-zero i) refl in
    rw has_bit-and at zero

-- where it leaves nothing of the words of some rows put together, these have none
pub none_in_rows : (words : List ℕ) (across column mask from to bits : ℕ) →
    HasAllBits words across column from to bits →
    bit_and bits mask ≡ 0 →
    NoMarks (has_masked words across column mask) from to
none_in_rows words across column mask from to bits each none = λ y i p l m.
    false_from_ne_true (has_masked words across column mask y i)
    (λ h.
    let (set, masked) = and_parts (has_at words across y column i) (has_bit mask i) h in
    let there : has_bit (bit_and bits mask) i ≡ true =
    rw has_bit-and
    (and_from (has_bit bits i) (has_bit mask i) (each y i p l set) masked) in
    let gone : has_bit (bit_and bits mask) i ≡ false = rw (none, bit_at-zero i) refl in
    both_ways (has_bit (bit_and bits mask) i) gone there)

-- a word that has the bits of one row, and no other
bits_of_row : (words : List ℕ) (across k row next at : ℕ) → next ≡ row + 1 → at ≡ row * across + k →
    HasAllBits words across k row next (slice_index_or words at 0)
    × HasNoOtherBits words across k row next (slice_index_or words at 0)
bits_of_row words across k row next at after place = (
  λ y i p l h. let same : y ≡ row = omega (arith, after) in rw place (rw same at h),
  λ i h. (row, omega arith, omega (arith, after), rw place at h),
)

-- words that have those of some rows and of the rows after them have together those of all
pub bits_join : (words : List ℕ) (across k from middle to a b : ℕ) → from ≤ middle → middle ≤ to →
    HasAllBits words across k from middle a → HasNoOtherBits words across k from middle a →
    HasAllBits words across k middle to b → HasNoOtherBits words across k middle to b →
    HasAllBits words across k from to (bit_or a b) × HasNoOtherBits words across k from to (bit_or a b)
bits_join words across k from middle to a b low high each_a some_a each_b some_b = (
  λ y i p l h.
      rw has_bit-or
      (elim (cases_lt y middle) [
        | inl above ↦ or_left (has_bit a i) (has_bit b i) (each_a y i p above h)
        | inr under ↦ or_right (has_bit a i) (has_bit b i) (each_b y i under l h)
      ]),
  λ i h.
      elim (or_cases (has_bit a i) (has_bit b i) (rw has_bit-or at h)) [
        | inl old ↦ let (y, p, l, m) = some_a i old in (y, p, omega (arith, l, high), m)
        | inr new ↦ let (y, p, l, m) = some_b i new in (y, omega (arith, p, low), l, m)
      ],
)

-- one row more
pub bits_more : (words : List ℕ) (across k from row bits : ℕ) → from ≤ row →
    HasAllBits words across k from row bits → HasNoOtherBits words across k from row bits →
    HasAllBits words across k from (row + 1) (bit_or bits (slice_index_or words (row * across + k) 0))
    × HasNoOtherBits words across k from (row + 1) (bit_or bits (slice_index_or words (row * across + k) 0))
bits_more words across k from row bits low each some =
    let one = bits_of_row words across k row (row + 1) (row * across + k) refl refl in
    bits_join words across k from row (row + 1) bits _ low (omega arith) each some one.0 one.1

-- four rows
pub bits_of_four : (words : List ℕ) (across k row at four : ℕ) → at ≡ row * across + k →
    four ≡ bit_or (bit_or (bit_or (slice_index_or words at 0) (slice_index_or words (at + across) 0))
    (slice_index_or words (at + 2 * across) 0)) (slice_index_or words (at + 3 * across) 0) →
    HasAllBits words across k row (row + 4) four × HasNoOtherBits words across k row (row + 4) four
bits_of_four words across k row at four place is =
    let a = bits_of_row words across k row (row + 1) at refl place in
    let b = bits_of_row words across k (row + 1) (row + 2) (at + across) (omega arith) (omega (arith, place)) in
    let c = bits_of_row words across k (row + 2) (row + 3) (at + 2 * across) (omega arith) (omega (arith, place)) in
    let d = bits_of_row words across k (row + 3) (row + 4) (at + 3 * across) (omega arith) (omega (arith, place)) in
    let two = bits_join words across k row (row + 1) (row + 2) _ _ (omega arith) (omega arith) a.0 a.1 b.0 b.1 in
    let three = bits_join words across k row (row + 2) (row + 3) _ _ (omega arith) (omega arith) two.0 two.1 c.0 c.1 in
    rw is
    (bits_join words across k row (row + 3) (row + 4) _ _ (omega arith) (omega arith) three.0 three.1 d.0 d.1)

-- rows and the rows after them that have none are rows that have none
pub no_marks_join : (q : ℕ → ℕ → Bool) (from middle to : ℕ) →
    NoMarks q from middle → NoMarks q middle to → NoMarks q from to
no_marks_join q from middle to front rest = λ y i p l m.
    elim (cases_lt y middle) [
      | inl above ↦ front y i p above m
      | inr under ↦ rest y i under l m
    ]

-- the bits of the rows from the first that has one to the last are those of all rows
pub gathered : (q : ℕ → ℕ → Bool) (from to first last bits : ℕ) →
    IsFirstRow q from to first →
    IsLastRow q first to last →
    bits < 2 ^ 64 →
    ((y i : ℕ) → first ≤ y → y < last + 1 → q y i ≡ true → has_bit bits i ≡ true) →
    ((i : ℕ) → has_bit bits i ≡ true → (y : ℕ) × (first ≤ y) × (y < last + 1) × (q y i ≡ true)) →
    IsGathered q from to (record { bits = bits; top = first; bottom = last })
gathered q from to first last bits is_first is_last small each some =
    let (i, a, b) = is_first.here in
    let (j, d, e) = is_last.here in
    let start = is_first.above in
    let order = is_last.above in
    let end = is_last.below in
    record {
      small = small;
      each = λ y k p l m h.
          elim (cases_lt y first) [
            | inl above ↦ absurd (both_ways (q y k) (is_first.none y k p above m) h)
            | inr under ↦ elim (cases_lt last y) [
              | inl below ↦ absurd (both_ways (q y k) (is_last.none y k (omega arith) l m) h)
              | inr within ↦ (each y k under (omega arith) h, under, within)
            ]
          ];
      some = λ k m h. let (y, p, l, t) = some k h in (y, omega arith, omega arith, t);
      at_top = (i, start, omega arith, a, b);
      at_bottom = (j, omega arith, end, d, e);
    }
