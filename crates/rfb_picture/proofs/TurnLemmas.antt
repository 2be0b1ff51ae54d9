-- Laws of lines that go round.
use Rattle.std.proofs.Common.{ℕ, List, ◌≡◌, ◌+◌, ◌-◌, ◌<◌, ◌≤◌, ◌∙◌, ap, sym, arith}
use Rattle.std.proofs.Common.{length}
use Rattle.std.proofs.Common.{slice_index_or}
use Rattle.std.proofs.Common.{take, drop, ◌++◌, nat_le, true, false, if◌then◌else◌, inl, inr, ◌⊎◌}
use Rattle.std.proofs.Common.{length-append, length-drop}
use borrow.Rule.Slice.PartMut.{mid_of, put_mid}
use Rattle.std.proofs.lemmas.Bool.{cases_order}
use Rattle.std.proofs.lemmas.Bool.Decides.{nat_tests}
use Rattle.std.proofs.lemmas.List.{get_or-take, get_or-drop, length-take-le}
use Rattle.std.specs.List.{RotatedLeft}
use Rattle.rfb_picture.specs.declared.picture.lines.Rows.{Rows}
use Rattle.rfb_picture.specs.layout.Turn.{Turned, is_among, line_from, rest_of}
use Rattle.rfb_picture.proofs.LoanLemmas.{after_run, before_run, in_run, written_over}
use Rattle.rfb_picture.proofs.SettleLemmas.{chosen, left}

-- the part that goes round is written over them
pub over_part : (xs ys : List ℕ) (a n : ℕ) → length ys ≡ n → put_mid a n xs ys ≡ written_over xs a ys
over_part xs ys a n e = ap (λ k. take a xs ++ (ys ++ drop k (drop a xs))) (sym e)

pub length_part : (xs ys : List ℕ) (a n : ℕ) → a + n ≤ length xs → length ys ≡ n →
    length (put_mid a n xs ys) ≡ length xs
length_part xs ys a n fits long =
    let front : length (take a xs) ≡ a = length-take-le a xs (omega (arith, fits)) in
    simp (length-append, length-drop) (omega (arith, front, long, fits))

-- ---- where a line comes from, by where it is

module _ (xs ys : List ℕ) (a n m : ℕ) (fits : a + n ≤ length xs) (few : m ≤ n) (long : length ys ≡ n)
    (turned : RotatedLeft (mid_of a n xs) ys n m) where
  pub outside_part : (y : ℕ) → (y < a) ⊎ (a + n ≤ y) →
      slice_index_or (put_mid a n xs ys) y 0 ≡ slice_index_or xs y 0
  outside_part y (inl l) =
      ap (λ l. slice_index_or l y 0) (over_part xs ys a n long) ∙ before_run xs a ys y 0 (omega (arith, fits)) l
  outside_part y (inr l) =
      ap (λ l. slice_index_or l y 0) (over_part xs ys a n long)
      ∙ after_run xs a ys y 0 (omega (arith, fits)) (omega (arith, l, long))

  read_part : (k : ℕ) → k < n → slice_index_or (mid_of a n xs) k 0 ≡ slice_index_or xs (a + k) 0
  read_part k l = get_or-take n (drop a xs) k 0 l ∙ get_or-drop a xs k 0

  inside_part : (y : ℕ) → a ≤ y → y < a + n →
      slice_index_or (put_mid a n xs ys) y 0 ≡ slice_index_or ys (y - a) 0
  inside_part y p q =
      ap (λ l. slice_index_or l y 0) (over_part xs ys a n long)
      ∙ in_run xs a ys y 0 0 (omega (arith, fits)) p (omega (arith, q, long))

  pub front_part : (y : ℕ) → a ≤ y → y + m < a + n →
      slice_index_or (put_mid a n xs ys) y 0 ≡ slice_index_or xs (y + m) 0
  front_part y p q =
      let at : a + (y - a + m) ≡ y + m = omega (arith, p) in
      inside_part y p (omega (arith, q))
      ∙ turned.0 (y - a) 0 (omega (arith, p, q))
      ∙ read_part (y - a + m) (omega (arith, p, q))
      ∙ ap (λ k. slice_index_or xs k 0) at

  pub back_part : (y : ℕ) → a ≤ y → y < a + n → a + n ≤ y + m →
      slice_index_or (put_mid a n xs ys) y 0 ≡ slice_index_or xs (y + m - n) 0
  back_part y p q r =
      let at : a + (y - a + m - n) ≡ y + m - n = omega (arith, p, q, r, few) in
      inside_part y p q
      ∙ turned.1 (y - a) 0 (omega (arith, p, r)) (omega (arith, p, q))
      ∙ read_part (y - a + m - n) (omega (arith, p, q, r, few))
      ∙ ap (λ k. slice_index_or xs k 0) at

-- ---- the rows of a copy

pub among : (first count y : ℕ) → first ≤ y → y < first + count → is_among first count y ≡ true
among first count y p q = grind (arith, nat_tests)

pub not_among : (first count y : ℕ) → (y < first) ⊎ (first + count ≤ y) → is_among first count y ≡ false
not_among first count y (inl l) = grind (arith, nat_tests)
not_among first count y (inr l) = grind (arith, nat_tests)

pub up : (rows : Rows) → rows.to ≤ rows.from → rest_of rows ≡ record {
  to = rows.to + rows.count;
  from = rows.to + rows.count - (rows.from - rows.to);
  count = rows.from - rows.to;
}
up rows l = chosen (nat_le rows.to rows.from) _ _ (grind (arith, nat_tests))

pub down : (rows : Rows) → rows.from < rows.to → rest_of rows
    ≡ record { to = rows.from; from = rows.to; count = rows.to - rows.from }
down rows l = left (nat_le rows.to rows.from) _ _ (grind (arith, nat_tests))

-- a row that is written has the line of its source
pub of_target : (rows : Rows) (y : ℕ) → rows.to ≤ y → y < rows.to + rows.count →
    line_from rows y ≡ rows.from + (y - rows.to)
of_target rows y p q = chosen (is_among rows.to rows.count y) _ _ (among rows.to rows.count y p q)

-- one that is left has another line
pub of_rest : (rows : Rows) (y : ℕ) → (y < rows.to) ⊎ (rows.to + rows.count ≤ y) →
    (rest_of rows).to ≤ y → y < (rest_of rows).to + (rest_of rows).count →
    line_from rows y ≡ (if nat_le rows.to rows.from then y - rows.count else y + rows.count)
of_rest rows y other p q =
    left (is_among rows.to rows.count y) _ _ (not_among rows.to rows.count y other)
    ∙ chosen (is_among (rest_of rows).to (rest_of rows).count y) _ _
    (among (rest_of rows).to (rest_of rows).count y p q)

-- and any other keeps its line
pub of_others : (rows : Rows) (y : ℕ) → (y < rows.to) ⊎ (rows.to + rows.count ≤ y) →
    (y < (rest_of rows).to) ⊎ ((rest_of rows).to + (rest_of rows).count ≤ y) → line_from rows y ≡ y
of_others rows y other outside =
    left (is_among rows.to rows.count y) _ _ (not_among rows.to rows.count y other)
    ∙ left (is_among (rest_of rows).to (rest_of rows).count y) _ _
    (not_among (rest_of rows).to (rest_of rows).count y outside)

-- where a row is: it is written, is left, or is neither
abbrev pub Where : Rows → ℕ → Type 0
Where rows y =
    ((rows.to ≤ y) × (y < rows.to + rows.count))
    ⊎ ((((y < rows.to) ⊎ (rows.to + rows.count ≤ y)) × ((rest_of rows).to ≤ y)
    × (y < (rest_of rows).to + (rest_of rows).count))
    ⊎ (((y < rows.to) ⊎ (rows.to + rows.count ≤ y))
    × ((y < (rest_of rows).to) ⊎ ((rest_of rows).to + (rest_of rows).count ≤ y))))

pub below_or_not : (m n : ℕ) → (m < n) ⊎ (n ≤ m)
below_or_not m n =
    elim (cases_order m n) [
      | inl e ↦ inr (omega arith)
      | inr (inl l) ↦ inl l
      | inr (inr l) ↦ inr (omega arith)
    ]

pub elsewhere : (rows : Rows) (y : ℕ) → (y < rows.to) ⊎ (rows.to + rows.count ≤ y) → Where rows y
elsewhere rows y other =
    elim (below_or_not y (rest_of rows).to) [
      | inl l ↦ inr (inr (other, inl l))
      | inr l ↦
          elim (below_or_not y ((rest_of rows).to + (rest_of rows).count)) [
            | inl k ↦ inr (inl (other, l, k))
            | inr k ↦ inr (inr (other, inr k))
          ]
    ]

pub where_is : (rows : Rows) (y : ℕ) → Where rows y
where_is rows y =
    elim (below_or_not y rows.to) [
      | inl l ↦ elsewhere rows y (inl l)
      | inr l ↦
          elim (below_or_not y (rows.to + rows.count)) [
            | inl k ↦ inl (l, k)
            | inr k ↦ elsewhere rows y (inr k)
          ]
    ]

-- ---- up: the target is above its source

module _ (rows : Rows) (xs ys : List ℕ) (l : rows.to ≤ rows.from) (near : rows.from ≤ rows.to + rows.count)
    (fits : rows.from + rows.count ≤ length xs)
    (long : length ys ≡ rows.from + rows.count - rows.to)
    (turned : RotatedLeft (mid_of rows.to (rows.from + rows.count - rows.to) xs) ys (rows.from + rows.count - rows.to)
    (rows.from - rows.to)) where
  abbrev size : ℕ
  size = rows.from + rows.count - rows.to

  up_fits : rows.to + size ≤ length xs
  up_fits = omega (arith, l, fits)

  up_few : rows.from - rows.to ≤ size
  up_few = omega (arith, l)

  up_outside : (y : ℕ) → (y < rows.to) ⊎ (rows.to + rows.count ≤ y) →
      (y < (rest_of rows).to) ⊎ ((rest_of rows).to + (rest_of rows).count ≤ y) →
      (y < rows.to) ⊎ (rows.to + size ≤ y)
  up_outside y (inl k) outside = inl k
  up_outside y (inr k) (inl m) =
      let below : y < rows.to + rows.count = rw (up rows l) at m in absurd (omega arith)
  up_outside y (inr k) (inr m) =
      let after : rows.to + rows.count + (rows.from - rows.to) ≤ y =
      rw (up rows l) at m in inr (omega (arith, l, after))

  up_line : (y : ℕ) → Where rows y →
      slice_index_or (put_mid rows.to size xs ys) y 0 ≡ slice_index_or xs (line_from rows y) 0
  up_line y (inl (p, q)) =
      let at : y + (rows.from - rows.to) ≡ rows.from + (y - rows.to) = omega (arith, l, p) in
      front_part xs ys rows.to size (rows.from - rows.to) up_fits up_few long turned y p (omega (arith, l, q))
      ∙ ap (λ k. slice_index_or xs k 0) (at ∙ sym (of_target rows y p q))
  up_line y (inr (inl (other, p, q))) =
      let rest = up rows l in
      let first : rows.to + rows.count ≤ y = rw rest at p in
      let last : y < rows.to + rows.count + (rows.from - rows.to) = rw rest at q in
      let at : y + (rows.from - rows.to) - size ≡ y - rows.count = omega (arith, l, first) in
      let test : nat_le rows.to rows.from ≡ true = grind (arith, nat_tests) in
      back_part xs ys rows.to size (rows.from - rows.to) up_fits up_few long turned y (omega (arith, first))
      (omega (arith, l, last)) (omega (arith, l, first))
      ∙ ap (λ k. slice_index_or xs k 0)
      (at ∙ sym (of_rest rows y other p q ∙ chosen (nat_le rows.to rows.from) _ _ test))
  up_line y (inr (inr (other, outside))) =
      outside_part xs ys rows.to size (rows.from - rows.to) up_fits up_few long turned y (up_outside y other outside)
      ∙ ap (λ k. slice_index_or xs k 0) (sym (of_others rows y other outside))

  pub up_turned : Turned rows xs (put_mid rows.to size xs ys)
  up_turned = record {
    long = length_part xs ys rows.to size up_fits long;
    lines = λ y q. up_line y (where_is rows y);
  }

-- ---- down: the target is below its source

module _ (rows : Rows) (xs ys : List ℕ) (l : rows.from < rows.to) (near : rows.to ≤ rows.from + rows.count)
    (fits : rows.to + rows.count ≤ length xs)
    (long : length ys ≡ rows.to + rows.count - rows.from)
    (turned : RotatedLeft (mid_of rows.from (rows.to + rows.count - rows.from) xs) ys
    (rows.to + rows.count - rows.from) rows.count) where
  abbrev part : ℕ
  part = rows.to + rows.count - rows.from

  down_fits : rows.from + part ≤ length xs
  down_fits = omega (arith, l, fits)

  down_few : rows.count ≤ part
  down_few = omega (arith, l)

  down_outside : (y : ℕ) → (y < rows.to) ⊎ (rows.to + rows.count ≤ y) →
      (y < (rest_of rows).to) ⊎ ((rest_of rows).to + (rest_of rows).count ≤ y) →
      (y < rows.from) ⊎ (rows.from + part ≤ y)
  down_outside y (inr k) outside = inr (omega (arith, l, k))
  down_outside y (inl k) (inl m) =
      let before : y < rows.from = rw (down rows l) at m in inl before
  down_outside y (inl k) (inr m) =
      let after : rows.from + (rows.to - rows.from) ≤ y = rw (down rows l) at m in absurd (omega (arith, l, k, after))

  down_line : (y : ℕ) → Where rows y →
      slice_index_or (put_mid rows.from part xs ys) y 0 ≡ slice_index_or xs (line_from rows y) 0
  down_line y (inl (p, q)) =
      let at : y + rows.count - part ≡ rows.from + (y - rows.to) = omega (arith, l, p) in
      back_part xs ys rows.from part rows.count down_fits down_few long turned y (omega (arith, l, p))
      (omega (arith, l, q)) (omega (arith, l, p))
      ∙ ap (λ k. slice_index_or xs k 0) (at ∙ sym (of_target rows y p q))
  down_line y (inr (inl (other, p, q))) =
      let rest = down rows l in
      let first : rows.from ≤ y = rw rest at p in
      let last : y < rows.from + (rows.to - rows.from) = rw rest at q in
      let test : nat_le rows.to rows.from ≡ false = grind (arith, nat_tests) in
      front_part xs ys rows.from part rows.count down_fits down_few long turned y first (omega (arith, l, last))
      ∙ ap (λ k. slice_index_or xs k 0)
      (sym (of_rest rows y other p q ∙ left (nat_le rows.to rows.from) _ _ test))
  down_line y (inr (inr (other, outside))) =
      outside_part xs ys rows.from part rows.count down_fits down_few long turned y (down_outside y other outside)
      ∙ ap (λ k. slice_index_or xs k 0) (sym (of_others rows y other outside))

  pub down_turned : Turned rows xs (put_mid rows.from part xs ys)
  down_turned = record {
    long = length_part xs ys rows.from part down_fits long;
    lines = λ y q. down_line y (where_is rows y);
  }

-- a part that ends before the list does is as long as it was asked for
pub length_mid : (xs : List ℕ) (a n : ℕ) → a + n ≤ length xs → length (mid_of a n xs) ≡ n
length_mid xs a n fits = length-take-le n (drop a xs) (rw length-drop (omega (arith, fits)))
