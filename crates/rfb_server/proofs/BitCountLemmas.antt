-- The set bits of a word, counted as the places of a row that they mark.
use Rattle.std.proofs.Common.{◌≡◌, ◌∙◌, ℕ, zero, suc, ◌+◌, ◌-◌, ◌*◌, ◌/◌, ◌%◌, ◌^◌, ◌<◌, ◌≤◌, ◌&&◌, ◌⊎◌, Bool, false}
use Rattle.std.proofs.Common.{nat_eq, nat_le, nat_lt, if◌then◌else◌, count_ones, sym, ap, refl, inl, inr, arith}
use Rattle.std.specs.Int.{bit_at}
use Rattle.std.proofs.Math.Nat.{div-add-mod', mod-lt}
use Rattle.std.proofs.lemmas.Bool.Decides.{nat_tests}
use Rattle.std.proofs.lemmas.Nat.{pow_pos}
use Rattle.std.proofs.lemmas.Nat.Bits.{bit_at_cat_low}
use Rattle.rfb_picture.specs.Places.{has_bit, HasBitsBetween}
use Rattle.rfb_server.specs.Composition.{count_row}
use Rattle.rfb_server.proofs.CountLemmas.{row_same, at_most}
use lib.Count.{ones_cat, ones-ones, ones-le}
use lib.Pow.{shr_lt}

-- ---- rows

-- the marked places of a row's front and those of the rest
pub row_split : (p : ℕ → ℕ → Bool) (x y a b : ℕ) → count_row p x y (a + b) ≡ count_row p x y a + count_row p (x + a) y b
row_split p x y a zero = let all : a + 0 ≡ a = omega arith in rw all (omega arith)
row_split p x y a (suc b) =
    let next : a + suc b ≡ suc (a + b) = omega arith in
    let place : x + (a + b) ≡ x + a + b = omega arith in
    ap (count_row p x y) next ∙ (rw (row_split p x y a b, place) (omega arith))

-- where no place is marked there are none
pub row_clear : (p : ℕ → ℕ → Bool) (x y w : ℕ) → ((i : ℕ) → i < w → p (x + i) y ≡ false) → count_row p x y w ≡ 0
row_clear p x y zero clear = refl
row_clear p x y (suc w) clear = rw (row_clear p x y w (λ i l. clear i (omega arith)), clear w (omega arith)) refl

-- and there are no more than places
pub row_le : (p : ℕ → ℕ → Bool) (x y w : ℕ) → count_row p x y w ≤ w
row_le p x y zero = omega arith
row_le p x y (suc w) = omega (arith, row_le p x y w, at_most (p (x + w) y))

-- ---- a word

-- the bit of a word of one bit
one_bit : (n : ℕ) → n < 2 → count_ones n ≡ (if nat_eq (n % 2) 1 then 1 else 0)
one_bit zero small = omega (arith, ones-le 0 0 (omega arith))
one_bit (suc zero) small = ones-ones 1
one_bit (suc (suc n)) small = absurd (omega arith)

-- a word of k bits has as many set as there are such places among the k of a row
pub ones_of_row : (p : ℕ → ℕ → Bool) (x y k word : ℕ) → word < 2 ^ k →
    ((i : ℕ) → i < k → has_bit word i ≡ p (x + i) y) →
    count_ones word ≡ count_row p x y k
ones_of_row p x y zero word small told =
    let none : word ≡ 0 = omega arith in
    ap count_ones none ∙ (omega (arith, ones-le 0 0 (omega arith)))
ones_of_row p x y (suc k) word small told =
    let top = word / 2 ^ k in
    let low = word % 2 ^ k in
    let whole : top * 2 ^ k + low ≡ word = div-add-mod' word (2 ^ k) in
    let low_small : low < 2 ^ k = mod-lt word (pow_pos k) in
    let next : suc k ≡ 1 + k = omega arith in
    let fits : word < 2 ^ (1 + k) = rw (← next) small in
    let top_small : top < 2 = shr_lt 1 k fits in
    let parts : count_ones word ≡ count_ones top + count_ones low =
    ap count_ones (sym whole) ∙ ones_cat k top low low_small in
    let below : count_ones low ≡ count_row p x y k =
    ones_of_row p x y k low low_small
    (λ i l. ap (λ n. nat_eq n 1) (sym (bit_at_cat_low top k low i l) ∙ ap (λ n. bit_at n i) whole)
    ∙ told i (omega arith)) in
    let here : count_ones top ≡ (if p (x + k) y then 1 else 0) =
    one_bit top top_small ∙ ap (λ b. if b then 1 else 0) (told k (omega arith)) in
    omega (arith, parts, below, here)

-- ---- the bits between two columns

outside : (from to x : ℕ) (b : Bool) → (x < from) ⊎ (to ≤ x) → ((nat_le from x && nat_lt x to) && b) ≡ false
outside from to x b out = grind (arith, nat_tests)

inside : (from to x : ℕ) (b : Bool) → from ≤ x → x < to → ((nat_le from x && nat_lt x to) && b) ≡ b
inside from to x b l m = grind (arith, nat_tests)

-- as many are set as places between them are marked
pub ones_between : (p : ℕ → ℕ → Bool) (y from to word : ℕ) → word < 2 ^ 64 → from < to → to ≤ from / 64 * 64 + 64 →
    HasBitsBetween p y from to word → count_ones word ≡ count_row p from y (to - from)
ones_between p y from to word small some cell told =
    let left = from / 64 * 64 in
    let q : ℕ → ℕ → Bool = λ x j. (nat_le from x && nat_lt x to) && p x j in
    let word_is : count_ones word ≡ count_row q left y 64 = ones_of_row q left y 64 word small told in
    let parts : 64 ≡ from - left + (to - from + (left + 64 - to)) = omega arith in
    let first : left + (from - left) ≡ from = omega arith in
    let front : count_row q left y 64
    ≡ count_row q left y (from - left) + count_row q from y (to - from + (left + 64 - to)) =
    ap (count_row q left y) parts ∙ row_split q left y (from - left) (to - from + (left + 64 - to))
    ∙ ap (λ x. count_row q left y (from - left) + count_row q x y (to - from + (left + 64 - to))) first in
    let back = row_split q from y (to - from) (left + 64 - to) in
    let before : count_row q left y (from - left) ≡ 0 =
    row_clear q left y (from - left) (λ i l. outside from to (left + i) (p (left + i) y) (inl (omega arith))) in
    let after : count_row q (from + (to - from)) y (left + 64 - to) ≡ 0 =
    row_clear q (from + (to - from)) y (left + 64 - to)
    (λ i l. outside from to (from + (to - from) + i) (p (from + (to - from) + i) y) (inr (omega arith))) in
    let middle : count_row q from y (to - from) ≡ count_row p from y (to - from) =
    row_same q p from y (to - from) (λ i l. inside from to (from + i) (p (from + i) y) (omega arith) (omega arith)) in
    omega (arith, word_is, front, back, before, after, middle)
