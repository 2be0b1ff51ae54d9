-- Bits of words, and of rows of words.
use Rattle.std.proofs.Common.{ℕ, List, Bool, true, false, ◌≡◌, ◌+◌, ◌-◌, ◌*◌, ◌/◌, ◌%◌, ◌^◌, ◌<◌, ◌≤◌, ◌&&◌, ◌||◌, min}
use Rattle.std.proofs.Common.{length, refl, ◌∙◌, arith, slice_index_or, slice_set, nat_eq, nat_le, nat_lt, bit_and}
use Rattle.std.proofs.Common.{bit_or, inl, inr, ◌⊎◌}
use Rattle.std.proofs.lemmas.Bool.{cases_lt, cases_eq}
use Rattle.std.proofs.lemmas.Bool.Decides.{nat_tests}
use Rattle.std.proofs.lemmas.Nat.{same_from_place, mul-add-lt}
use Rattle.std.proofs.Math.Nat.{mul_comm}
use Rattle.std.proofs.lemmas.Nat.Bits.{bit_at_and, bit_at_or, bit_at-lt, bit_at_mask_inside, bit_at_mask_below}
use Rattle.std.proofs.lemmas.Nat.Bits.{bit_at_ones, bit_at_ones_above, ones_shl, ones_shr}
use Rattle.std.proofs.lemmas.List.{get_or-set_same, get_or-set_other}
use Rattle.rfb_picture.specs.declared.rect.Rect.{Rect}
use Rattle.rfb_picture.specs.Rect.{contains}
use Rattle.rfb_picture.specs.Places.{has_bit}
use Rattle.rfb_picture.specs.layout.Plane.{has_at, ColumnAdded}

-- ---- one word

-- a bit of two words or-ed together
pub has_bit-or : (a b i : ℕ) → has_bit (bit_or a b) i ≡ (has_bit a i || has_bit b i)
has_bit-or a b i = rw bit_at_or (grind (arith, nat_tests, bit_at-lt a i, bit_at-lt b i))

-- and of two words and-ed together
pub has_bit-and : (a b i : ℕ) → has_bit (bit_and a b) i ≡ (has_bit a i && has_bit b i)
has_bit-and a b i = rw bit_at_and (grind (arith, nat_tests, bit_at-lt a i, bit_at-lt b i))

-- the ones from low on
high_ones : (low i : ℕ) → i < 64 → has_bit (2 ^ 64 - 2 ^ low) i ≡ nat_le low i
high_ones low i p =
    elim (cases_lt i low) [
      | inl l ↦ rw (bit_at_mask_below low 64 i l) (grind (arith, nat_tests))
      | inr l ↦ rw (bit_at_mask_inside low 64 i l p) (grind (arith, nat_tests))
    ]

-- the ones below high
low_ones : (high i : ℕ) → has_bit (2 ^ high - 1) i ≡ nat_lt i high
low_ones high i =
    elim (cases_lt i high) [
      | inl l ↦ rw (bit_at_ones high i l) (grind (arith, nat_tests))
      | inr l ↦ rw (bit_at_ones_above high i l) (grind (arith, nat_tests))
    ]

-- the ones of a word for the places from `from` up to `to`
pub between : (start from to i : ℕ) →
    from < start + 64 →
    start < to →
    i < 64 →
    has_bit (bit_and ((2 ^ 64 - 1) * 2 ^ (from - start) % 2 ^ 64)
    ((2 ^ 64 - 1) / 2 ^ (64 - min (to - start) 64))) i
    ≡ (nat_le from (start + i) && nat_lt (start + i) to)
between start from to i p q l =
    let below : from - start ≤ 64 = omega arith in
    let low = ones_shl 64 (from - start) below in
    let high = ones_shr 64 (64 - min (to - start) 64) (omega arith) in
    let twice : 64 - (64 - min (to - start) 64) ≡ min (to - start) 64 = omega arith in
    rw (
      low,
      high,
      twice,
      has_bit-and,
      high_ones (from - start) i l,
      low_ones (min (to - start) 64) i,
    ) (grind (arith, nat_tests))

-- ---- rows of words

pub cases_place : (k column y row : ℕ) → ((k ≡ column) × (y ≡ row)) ⊎ (k ≡ column → y ≡ row → ⊥)
cases_place k column y row =
    elim (cases_eq k column) [
      | inl e ↦ elim (cases_eq y row) [ inl f ↦ inl (e, f) | inr f ↦ inr (λ _ h. f h) ]
      | inr e ↦ inr (λ h _. e h)
    ]

or_false : (b : Bool) → (b || false) ≡ b
or_false true = refl
or_false false = refl

-- a word that a row more reaches
reached : (k column y top row : ℕ) (now before first mask : Bool) →
    k ≡ column →
    y ≡ row →
    top ≤ row →
    before ≡ (first || ((nat_eq k column && (nat_le top y && nat_lt y row)) && mask)) →
    now ≡ (before || mask) →
    now ≡ (first || ((nat_eq k column && (nat_le top y && nat_lt y (row + 1))) && mask))
reached k column y top row now before first mask e f from was here =
    let none : (nat_eq k column && (nat_le top y && nat_lt y row)) ≡ false =
    grind (arith, nat_tests) in
    let some : (nat_eq k column && (nat_le top y && nat_lt y (row + 1))) ≡ true =
    grind (arith, nat_tests) in
    rw some (here ∙ (rw (was, none, or_false) refl))

-- and one that it does not reach
pub unreached : (k column y top row : ℕ) →
    (k ≡ column → y ≡ row → ⊥) →
    (nat_eq k column && (nat_le top y && nat_lt y row))
    ≡ (nat_eq k column && (nat_le top y && nat_lt y (row + 1)))
unreached k column y top row other = grind (arith, nat_tests)

-- of words of which one is set, that one has its bits, and the others have theirs
word_set : (words : List ℕ) (across column row value k y i : ℕ) → column < across → k < across →
    row * across + column < length words →
    ((k ≡ column) × (y ≡ row)
    × (has_at (slice_set words (row * across + column) value) across row column i ≡ has_bit value i))
    ⊎ ((k ≡ column → y ≡ row → ⊥)
    × (has_at (slice_set words (row * across + column) value) across y k i ≡ has_at words across y k i))
word_set words across column row value k y i p q l =
    elim (cases_place k column y row) [
      | inl same ↦ inl (same.0, same.1, rw (get_or-set_same words (row * across + column) value 0 l) refl)
      | inr other ↦
          let apart : (y * across + k ≡ row * across + column) → ⊥ =
          λ e. let place = same_from_place y k row column across q p e in other place.1 place.0 in
          inr (
            other,
            rw (get_or-set_other words (row * across + column) (y * across + k) value 0 apart) refl,
          )
    ]

-- a word of a row is one of the words
pub word_of_row : (row bottom column across n : ℕ) →
    row < bottom → column < across → bottom * across ≤ n → row * across + column < n
word_of_row row bottom column across n p q l = let below =
    mul-add-lt row across column bottom p q in omega (arith, mul_comm bottom across)

-- with the word of one row more
pub one_row_more : (words first : List ℕ) (across column top row bottom mask : ℕ) →
    column < across → row < bottom → bottom * across ≤ length words → top ≤ row →
    ColumnAdded across column top row mask first words →
    ColumnAdded across column top (row + 1) mask first
    (slice_set words (row * across + column)
    (bit_or (slice_index_or words (row * across + column) 0) mask))
one_row_more words first across column top row bottom mask p low room from added k y i q =
    let l = word_of_row row bottom column across (length words) low p room in
    let value = bit_or (slice_index_or words (row * across + column) 0) mask in
    elim (word_set words across column row value k y i p q l) [
      | inl here ↦
          let bits : has_at (slice_set words (row * across + column) value) across y k i
          ≡ (has_at words across y k i || has_bit mask i) =
          rw (here.0, here.1) (here.2 ∙ has_bit-or _ mask i) in
          reached k column y top row _ _ (has_at first across y k i) (has_bit mask i) here.0 here.1 from
          (added k y i q) bits
      | inr other ↦ rw (other.1, ← unreached k column y top row other.0) (added k y i q)
    ]

-- with the words of one column more
pub one_column_more : (rect : Rect) (column k y i : ℕ) (now before first mask : Bool) →
    (k ≡ column →
    mask ≡ (nat_le rect.x (column * 64 + i) && nat_lt (column * 64 + i) (rect.x + rect.w))) →
    before ≡ (first || (nat_lt k column && contains rect (k * 64 + i) y)) →
    now ≡ (before
    || ((nat_eq k column && (nat_le rect.y y && nat_lt y (rect.y + rect.h))) && mask)) →
    now ≡ (first || (nat_lt k (column + 1) && contains rect (k * 64 + i) y))
one_column_more rect column k y i now before first mask is was here =
    elim (cases_eq k column) [
      | inl e ↦ let same = is e in grind (arith, nat_tests)
      | inr e ↦ grind (arith, nat_tests)
    ]
