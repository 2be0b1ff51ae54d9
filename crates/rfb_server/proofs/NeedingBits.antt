-- Places of a row that need sending, as bits of a word.
use Rattle.std.proofs.Common.{◌≡◌, ◌∙◌, ℕ, ◌+◌, ◌-◌, ◌*◌, ◌/◌, ◌%◌, ◌^◌, ◌<◌, ◌≤◌, ◌&&◌, Bool, true, false, not, nat_eq}
use Rattle.std.proofs.Common.{nat_le, nat_lt, min, max, sym, ap, refl, arith, inl, inr}
use Rattle.std.specs.Int.{w64, bit_at, trailing_zeros, leading_zeros}
use Rattle.std.proofs.Math.Nat.{div-add-mod'}
use Rattle.std.proofs.lemmas.Bool.{both_ways, cases_lt}
use Rattle.std.proofs.lemmas.Bool.Decides.{nat_tests}
use Rattle.std.proofs.lemmas.Nat.{pow_pos}
use Rattle.std.proofs.lemmas.Nat.Bits.{bit_at_not, bit_at-lt, bit_at-zero, bit_at_cat_low, bit_at_cat_high}
use Rattle.rfb_picture.specs.Places.{has_bit, HasBitsBetween, NoneInRow}
use Rattle.rfb_picture.proofs.GatherLaws.{first_bit, last_bit}
use Rattle.rfb_server.specs.update.Needs.{IsFirst, IsEnd}

-- ---- bits

not_tells : (b : ℕ) → b < 2 → nat_eq (1 - b) 1 ≡ not (nat_eq b 1)
not_tells b small = grind (arith, nat_tests)

pub has_bit-not : (n i : ℕ) → n < 2 ^ 64 → i < 64 → has_bit (2 ^ 64 - 1 - n) i ≡ not (has_bit n i)
has_bit-not n i small low = ap (λ b. nat_eq b 1) (bit_at_not w64 n i small low) ∙ not_tells (bit_at n i) (bit_at-lt n i)

pub has_bit-zero : (i : ℕ) → has_bit 0 i ≡ false
has_bit-zero i = rw (bit_at-zero i) refl

-- a bit of a word that is moved up
pub has_bit-up : (n k i : ℕ) → i < 64 → k ≤ i → has_bit (n * 2 ^ k % 2 ^ 64) i ≡ has_bit n (i - k)
has_bit-up n k i low from =
    let all = n * 2 ^ k in
    let parts : all / 2 ^ 64 * 2 ^ 64 + all % 2 ^ 64 ≡ all = div-add-mod' all (2 ^ 64) in
    let kept : bit_at (all % 2 ^ 64) i ≡ bit_at all i =
    sym (bit_at_cat_low (all / 2 ^ 64) 64 (all % 2 ^ 64) i low) ∙ ap (λ m. bit_at m i) parts in
    let plain : all ≡ n * 2 ^ k + 0 = omega arith in
    let moved : bit_at all i ≡ bit_at n (i - k) =
    ap (λ m. bit_at m i) plain ∙ bit_at_cat_high n k 0 i (pow_pos k) from in
    ap (λ m. nat_eq m 1) (kept ∙ moved)

-- ---- the first and the last place

no_place : (a b p : Bool) → false ≡ ((a && b) && p) → a ≡ true → b ≡ true → p ≡ false
no_place true true p e f g = sym e
no_place true false p e f g = absurd (both_ways false refl g)
no_place false b p e f g = absurd (both_ways false refl f)

some_place : (a b p : Bool) → true ≡ ((a && b) && p) → (a ≡ true) × (b ≡ true) × (p ≡ true)
some_place true true p e = (refl, refl, sym e)
some_place true false p e = absurd (both_ways false refl (sym e))
some_place false b p e = absurd (both_ways false refl (sym e))

from_lt : (a b : ℕ) → nat_lt a b ≡ true → a < b
from_lt a b e = grind (arith, nat_tests)

from_le : (a b : ℕ) → nat_le a b ≡ true → a ≤ b
from_le a b e = grind (arith, nat_tests)

to_lt : (a b : ℕ) → a < b → nat_lt a b ≡ true
to_lt a b e = grind (arith, nat_tests)

to_le : (a b : ℕ) → a ≤ b → nat_le a b ≡ true
to_le a b e = grind (arith, nat_tests)

-- a place that the word has no bit for is not marked
pub unset_quiet : (p : ℕ → ℕ → Bool) (y from to word x : ℕ) → HasBitsBetween p y from to word →
    to ≤ from / 64 * 64 + 64 → from ≤ x → x < to → has_bit word (x - from / 64 * 64) ≡ false → p x y ≡ false
unset_quiet p y from to word x told cell a b none =
    let left = from / 64 * 64 in
    let place : left + (x - left) ≡ x = omega arith in
    let bit : has_bit word (x - left) ≡ ((nat_le from x && nat_lt x to) && p x y) =
    rw place at (told (x - left) (omega arith)) in
    no_place (nat_le from x) (nat_lt x to) (p x y) (sym none ∙ bit) (to_le from x a) (to_lt x to b)

-- and one that it has a bit for is
pub set_marked : (p : ℕ → ℕ → Bool) (y from to word i : ℕ) → HasBitsBetween p y from to word →
    i < 64 → has_bit word i ≡ true →
    (from ≤ from / 64 * 64 + i) × (from / 64 * 64 + i < to) × (p (from / 64 * 64 + i) y ≡ true)
set_marked p y from to word i told low some =
    let x = from / 64 * 64 + i in
    let (a, b, m) = some_place (nat_le from x) (nat_lt x to) (p x y) (sym some ∙ told i low) in
    (from_le from x a, from_lt x to b, m)

-- a word without a bit marks no place
pub none_between : (p : ℕ → ℕ → Bool) (y from to word : ℕ) → HasBitsBetween p y from to word →
    word ≡ 0 →
    to ≤ from / 64 * 64 + 64 → NoneInRow p y from to
none_between p y from to word told zero cell =
    λ x a b. unset_quiet p y from to word x told cell a b (rw zero (has_bit-zero (x - from / 64 * 64)))

-- no place up to a column and none from it on is none at all
pub none_joined : (p : ℕ → ℕ → Bool) (y from at to : ℕ) → NoneInRow p y from at → NoneInRow p y at to →
    NoneInRow p y from to
none_joined p y from at to before after x a b =
    elim (cases_lt x at) [
      | inl less ↦ before x a less
      | inr more ↦ after x more b
    ]

pub first_between : (p : ℕ → ℕ → Bool) (y from to word : ℕ) → HasBitsBetween p y from to word →
    to ≤ from / 64 * 64 + 64 →
    0 < word → word < 2 ^ 64 →
    (from ≤ from / 64 * 64 + trailing_zeros w64 word) × (from / 64 * 64 + trailing_zeros w64 word < to)
    × (p (from / 64 * 64 + trailing_zeros w64 word) y ≡ true)
    × NoneInRow p y from (from / 64 * 64 + trailing_zeros w64 word)
first_between p y from to word told cell some small =
    let (low, here, least) = first_bit word some small in
    let (a, b, m) = set_marked p y from to word (trailing_zeros w64 word) told low here in (
      a,
      b,
      m,
      λ x c d. unset_quiet p y from to word x told cell c (omega arith)
          (by_bit (has_bit word (x - from / 64 * 64)) refl (λ e. omega (arith, least (x - from / 64 * 64) e, c, d))),
    )
  where
    by_bit : (b : Bool) → {c : Bool} → c ≡ b → (c ≡ true → ⊥) → c ≡ false
    by_bit false e never = e
    by_bit true e never = absurd (never e)

pub last_between : (p : ℕ → ℕ → Bool) (y from to word : ℕ) → HasBitsBetween p y from to word →
    to ≤ from / 64 * 64 + 64 →
    0 < word → word < 2 ^ 64 →
    (leading_zeros w64 word ≤ 63) × (from < from / 64 * 64 + 64 - leading_zeros w64 word)
    × (from / 64 * 64 + 64 - leading_zeros w64 word ≤ to)
    × (p (from / 64 * 64 + 64 - leading_zeros w64 word - 1) y ≡ true)
    × NoneInRow p y (from / 64 * 64 + 64 - leading_zeros w64 word) to
last_between p y from to word told cell some small =
    let (low, here, most) = last_bit word some small in
    let (a, b, m) = set_marked p y from to word (63 - leading_zeros w64 word) told (omega arith) here in
    let place : from / 64 * 64 + (63 - leading_zeros w64 word) ≡ from / 64 * 64 + 64 - leading_zeros w64 word - 1 =
    omega arith in (
      low,
      omega arith,
      omega arith,
      rw (← place) m,
      λ x c d. unset_quiet p y from to word x told cell (omega arith) d
          (by_bit (has_bit word (x - from / 64 * 64)) refl
          (λ e. omega (arith, most (x - from / 64 * 64) e, c, d, low))),
    )
  where
    by_bit : (b : Bool) → {c : Bool} → c ≡ b → (c ≡ true → ⊥) → c ≡ false
    by_bit false e never = e
    by_bit true e never = absurd (never e)

-- ---- both sides of the columns so far, by one look at the row

-- none is left of a column, nor right of another, where the row has none
pub none_left : (p : ℕ → ℕ → Bool) (y from to first : ℕ) → NoneInRow p y from to → from ≤ first → first ≤ to →
    IsFirst p y from first first
none_left p y from to first none order within = record {
  order = (order, omega arith);
  none = λ x a b. none x a (omega (arith, b, within));
  here = λ l. absurd (omega (arith, l));
}

pub none_right : (p : ℕ → ℕ → Bool) (y from to end : ℕ) → NoneInRow p y from to → from ≤ end → end ≤ to →
    IsEnd p y end to end
none_right p y from to end none order within = record {
  order = (omega arith, within);
  none = λ x a b. none x (omega (arith, a, order)) b;
  here = λ l. absurd (omega (arith, l));
}

-- the first one is left of a column, or it is that column
pub first_left : (p : ℕ → ℕ → Bool) (y from to word first column : ℕ) → HasBitsBetween p y from to word →
    to ≤ from / 64 * 64 + 64 → 0 < word → word < 2 ^ 64 → from ≤ first →
    column ≡ min first (from / 64 * 64 + trailing_zeros w64 word) → IsFirst p y from first column
first_left p y from to word first column told cell some small order least =
    let is : column < first → column ≡ from / 64 * 64 + trailing_zeros w64 word =
    λ less. omega (arith, less, least) in
    let (reached, within, here, none) = first_between p y from to word told cell some small in
    record {
      order = (
        elim (cases_lt column first) [
          | inl less ↦ omega (arith, is less, reached)
          | inr more ↦ omega (arith, more, order)
        ],
        omega (arith, least),
      );
      none = λ x a b. none x a (omega (arith, b, least));
      here = λ less. rw (is less) here;
    }

-- and so it is with the last one
pub last_right : (p : ℕ → ℕ → Bool) (y from to word end column : ℕ) → HasBitsBetween p y from to word →
    to ≤ from / 64 * 64 + 64 → 0 < word → word < 2 ^ 64 → end ≤ to →
    column ≡ max end (from / 64 * 64 + 64 - leading_zeros w64 word) → IsEnd p y end to column
last_right p y from to word end column told cell some small order most =
    let (few, reached, within, here, none) = last_between p y from to word told cell some small in
    let is : end < column → column ≡ from / 64 * 64 + 64 - leading_zeros w64 word =
    λ more. omega (arith, more, most) in
    record {
      order = (
        omega (arith, most),
        elim (cases_lt end column) [
          | inl more ↦ omega (arith, is more, within)
          | inr less ↦ omega (arith, less, order)
        ],
      );
      none = λ x a b. none x (omega (arith, a, most)) b;
      here = λ more. rw (is more) here;
    }
