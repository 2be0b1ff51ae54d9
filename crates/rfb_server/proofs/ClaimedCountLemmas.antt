-- Rows of a rectangle, some of them chosen: the marked places of these and of the others.
use Rattle.std.proofs.Common.{◌≡◌, ℕ, zero, suc, ◌+◌, ◌-◌, ◌<◌, ◌≤◌, Bool, true, false, not}
use Rattle.std.proofs.Common.{nat_lt, if◌then◌else◌, refl, ap, arith, add-one, inl, inr}
use Rattle.std.specs.Bool.{OnTrue, OnFalse}
use Rattle.std.proofs.lemmas.Bool.{cases_lt}
use Rattle.std.proofs.lemmas.Bool.Decides.{nat_tests}
use Rattle.rfb_picture.specs.declared.rect.Rect.{Rect}
use Rattle.rfb_server.specs.Composition.{count_row, count_rows, count_in}
use Rattle.rfb_server.specs.update.Gains.{sum_where, counts, won_by}
use Rattle.rfb_server.proofs.CountLemmas.{at_most}
use Rattle.rfb_server.proofs.BitCountLemmas.{row_le}

-- ---- one row

-- where each place of a row is marked, there are as many as places
pub row_full : (p : ℕ → ℕ → Bool) (x y w : ℕ) → ((i : ℕ) → i < w → p (x + i) y ≡ true) →
    count_row p x y w ≡ w
row_full p x y zero full = refl
row_full p x y (suc w) full =
    rw (row_full p x y w (λ i l. full i (omega arith)), full w (omega arith)) (omega arith)

one_more : (b : Bool) (n w : ℕ) → n ≤ w → n + (if b then 1 else 0) ≡ suc w → b ≡ true
one_more true n w few e = refl
one_more false n w few e = absurd (omega arith)

-- and where there are as many, each place is
pub each_in_row : (p : ℕ → ℕ → Bool) (x y w i : ℕ) → count_row p x y w ≡ w → i < w →
    p (x + i) y ≡ true
each_in_row p x y zero i all l = absurd (omega arith)
each_in_row p x y (suc w) i all l =
    elim (cases_lt i w) [
      | inl less ↦
          each_in_row p x y w i (omega (arith, all, row_le p x y w, at_most (p (x + w) y))) less
      | inr more ↦
          let last : w ≡ i = omega arith in
          rw last at (one_more (p (x + w) y) (count_row p x y w) w (row_le p x y w) all)
    ]

-- ---- sums over rows

-- one row more, if it is chosen or not
pub row_taken : (chosen : ℕ → Bool) (value : ℕ → ℕ) (n sum m : ℕ) → chosen n ≡ true →
    sum ≡ sum_where chosen value n → m ≡ value n → sum + m ≡ sum_where chosen value (n + 1)
row_taken chosen value n sum m here above more =
    rw (above, more, ap (sum_where chosen value) (add-one n), here) refl

pub row_passed : (chosen : ℕ → Bool) (value : ℕ → ℕ) (n sum : ℕ) → chosen n ≡ false →
    sum ≡ sum_where chosen value n → sum ≡ sum_where chosen value (n + 1)
row_passed chosen value n sum here above =
    rw (above, ap (sum_where chosen value) (add-one n), here) (omega arith)

-- more of them add nothing that is less than 0
sum_on : (chosen : ℕ → Bool) (value : ℕ → ℕ) (n k : ℕ) →
    sum_where chosen value n ≤ sum_where chosen value (n + k)
sum_on chosen value n zero = let all : n + 0 ≡ n = omega arith in rw all (omega arith)
sum_on chosen value n (suc k) =
    let next : n + suc k ≡ suc (n + k) = omega arith in
    rw next (omega (arith, sum_on chosen value n k))

pub sum_up : (chosen : ℕ → Bool) (value : ℕ → ℕ) (n h : ℕ) → n ≤ h →
    sum_where chosen value n ≤ sum_where chosen value h
sum_up chosen value n h order =
    let all : n + (h - n) ≡ h = omega arith in
    rw all at (sum_on chosen value n (h - n))

either : (b : Bool) (n : ℕ) → n ≡ (if b then n else 0) + (if not b then n else 0)
either true n = omega arith
either false n = omega arith

-- the marked places of all rows are those of the chosen ones and those of the others
pub rows_apart : (p : ℕ → ℕ → Bool) (chosen : ℕ → Bool) (r : Rect) (h : ℕ) →
    count_rows p r.x r.y r.w h
    ≡ sum_where chosen (counts p r) h + sum_where (λ row. not (chosen row)) (counts p r) h
rows_apart p chosen r zero = refl
rows_apart p chosen r (suc h) =
    omega (arith, rows_apart p chosen r h, either (chosen h) (counts p r h))

won_in_row : (b : Bool) (n m w : ℕ) → n ≤ w → (b ≡ true → m ≡ w) →
    (if b then m else 0) ≡ (if b then n else 0) + (if b then w - n else 0)
won_in_row true n m w few full = omega (arith, full refl)
won_in_row false n m w few full = omega arith

-- where chosen rows are full of marks of another kind, they have those of the first kind and the
-- places that are not of it
pub sum_won : (p q : ℕ → ℕ → Bool) (chosen : ℕ → Bool) (r : Rect) (h : ℕ) →
    ((row : ℕ) → row < h → chosen row ≡ true → counts q r row ≡ r.w) →
    sum_where chosen (counts q r) h
    ≡ sum_where chosen (counts p r) h + sum_where chosen (won_by p r) h
sum_won p q chosen r zero full = refl
sum_won p q chosen r (suc h) full =
    omega (
      arith,
      sum_won p q chosen r h (λ row l. full row (omega arith)),
      won_in_row (chosen h) (counts p r h) (counts q r h) r.w (row_le p r.x (r.y + h) r.w)
          (full h (omega arith)),
    )

none_won : (b : Bool) (n w m : ℕ) → m + (if b then w - n else 0) ≡ 0 → n ≤ w → b ≡ true → n ≡ w
none_won true n w m none few here = omega (arith, none)
none_won false n w m none few here = absurd (cc)

-- where no place of chosen rows is missing, each of these is full
pub none_missing : (p : ℕ → ℕ → Bool) (chosen : ℕ → Bool) (r : Rect) (h row : ℕ) →
    sum_where chosen (won_by p r) h ≡ 0 → row < h → chosen row ≡ true → counts p r row ≡ r.w
none_missing p chosen r zero row none l here = absurd (omega arith)
none_missing p chosen r (suc h) row none l here =
    elim (cases_lt row h) [
      | inl less ↦ none_missing p chosen r h row (omega (arith, none)) less here
      | inr more ↦
          let last : h ≡ row = omega arith in
          let above = sum_where chosen (won_by p r) h in
          let few = row_le p r.x (r.y + h) r.w in
          rw last at (none_won (chosen h) (counts p r h) r.w above none few) here
    ]

-- ---- which kind has more

module _ (p q : ℕ → ℕ → Bool) (chosen : ℕ → Bool) (r : Rect) (before after won most : ℕ)
    (full : (row : ℕ) → row < r.h → chosen row ≡ true → counts q r row ≡ r.w)
    (before_is : before ≡ sum_where (λ row. not (chosen row)) (counts p r) r.h)
    (after_is : after ≡ sum_where (λ row. not (chosen row)) (counts q r) r.h)
    (few : won ≤ sum_where chosen (won_by p r) r.h) where
  -- how many more there are of each kind is told by the rows that are not chosen, and by what is won
  counted : count_in q r + before ≡ count_in p r + after + sum_where chosen (won_by p r) r.h
  counted =
      omega (
        arith,
        before_is,
        after_is,
        rows_apart p chosen r r.h,
        rows_apart q chosen r r.h,
        sum_won p q chosen r r.h full,
      )

  -- the second kind has, if the others do by what is won
  more_by_won : OnTrue (nat_lt before (after + won)) (count_in p r < count_in q r)
  more_by_won = by (nat_lt before (after + won)) refl
    where
      by : (b : Bool) → nat_lt before (after + won) ≡ b → OnTrue b (count_in p r < count_in q r)
      by true e =
          let more : before < after + won = grind (arith, nat_tests) in
          omega (arith, more, few, counted)
      by false e = tt

  -- and only if, where all that is won is counted up to as many as the others lose
  no_more_by_won : before ≤ most + after →
      (won ≤ most → won ≡ sum_where chosen (won_by p r) r.h) →
      OnFalse (nat_lt before (after + won)) (count_in p r < count_in q r → ⊥)
  no_more_by_won lost all = by (nat_lt before (after + won)) refl
    where
      by : (b : Bool) → nat_lt before (after + won) ≡ b →
          OnFalse b (count_in p r < count_in q r → ⊥)
      by true e = tt
      by false e = λ more.
          let none : after + won ≤ before = grind (arith, nat_tests) in
          let is : won ≡ sum_where chosen (won_by p r) r.h = all (omega arith) in
          omega (arith, more, none, is, counted)

  -- so it is told whether it has
  pub told_by_won : before ≤ most + after → (won ≤ most → won ≡ sum_where chosen (won_by p r) r.h) →
      OnTrue (nat_lt before (after + won)) (count_in p r < count_in q r)
      × OnFalse (nat_lt before (after + won)) (count_in p r < count_in q r → ⊥)
  told_by_won lost all = (more_by_won, no_more_by_won lost all)
