-- The rule of RRE has a choice for every block: a background, and subrectangles one after another
-- until no place is left.
use Rattle.std.proofs.Common.{◌≡◌, ◌≢◌, ℕ, zero, suc, ◌+◌, ◌-◌, ◌*◌, ◌/◌, ◌%◌, ◌<◌, ◌≤◌, List, [], ◌∷◌, ◌++◌, Bool}
use Rattle.std.proofs.Common.{true, false, length, slice_index, arith, refl, ap, subst, inl, inr, ◌⊎◌}
use Rattle.std.proofs.Common.{length-append}
use Rattle.std.proofs.lemmas.Bool.{cases_lt, cases_eq, cases_order, both_ways}
use Rattle.std.proofs.lemmas.Nat.{div-add-mod', div_below, mod_below, div-mul-add, mod-mul-add}
use Rattle.std.proofs.Math.Nat.{mul-le-mul_right}
use Rattle.rfb_picture.proofs.GridLaws.{place_below, some_in_row}
use Rattle.rfb_codec.specs.declared.subrect.Subrect.{Subrect}
use Rattle.rfb_codec.specs.Choice.{IsPixelOf, places_of, IsBackground, is_in_any, IsLeft, IsFree, IsFreeRun, IsNextSub}
use Rattle.rfb_codec.specs.Choice.{AreNextSubs, AreRuleSubs}
use Rattle.rfb_codec.proofs.RuleLemmas.{next_push}
use Rattle.rfb_codec.proofs.RuleCountLemmas.{few_of}

-- ---- searching

abbrev pub Decided : Type 0 → Type 0
Decided A = A ⊎ (A → ⊥)

-- and so is that it does not hold
turned : (A : Type 0) → Decided A → Decided (A → ⊥)
turned A decided = elim decided [ inl is ↦ inr (λ isnt. isnt is) | inr isnt ↦ inl isnt ]

-- the first number below n of that kind, or none is
pub first_hit : (P : ℕ → Type 0) → ((i : ℕ) → Decided (P i)) → (n : ℕ) →
    ((i : ℕ) → i < n → P i → ⊥) ⊎ ((k : ℕ) × (k < n) × P k × ((i : ℕ) → i < k → P i → ⊥))
first_hit P dec zero = inl (λ i l. absurd (omega arith))
first_hit P dec (suc n) =
    elim (first_hit P dec n) [
      | inl none ↦
          elim (dec n) [
            | inl here ↦ inr (n, omega arith, here, none)
            | inr not ↦ inl (λ i l is. elim (cases_lt i n) [
              | inl less ↦ none i less is
              | inr more ↦ let same : i ≡ n = omega arith in not (subst P same is)
            ])
          ]
      | inr found ↦ inr (found.0, omega (arith, found.1), found.2, found.3)
    ]

-- the longest run of that kind from a number on, below another
pub longest_run : (P : ℕ → Type 0) → ((i : ℕ) → Decided (P i)) → (from to : ℕ) → from < to → P from →
    (n : ℕ) × (0 < n) × (from + n ≤ to) × ((i : ℕ) → from ≤ i → i < from + n → P i) × (from + n < to → P (from + n) → ⊥)
longest_run P dec from to some here =
    elim (first_hit (λ i. P (from + i) → ⊥) (λ i. turned (P (from + i)) (dec (from + i))) (to - from)) [
      | inl none ↦ (
        to - from,
        omega (arith, some),
        omega (arith, some),
        λ i low high. held i low (none (i - from) (omega (arith, low, high, some))),
        λ l. absurd (omega (arith, l, some)),
      )
      | inr found ↦ (
        found.0,
        positive found.0 found.2,
        omega (arith, found.1),
        λ i low high. held i low (found.3 (i - from) (omega (arith, low, high))),
        λ l is. found.2 is,
      )
    ]
  where
    held : (i : ℕ) → from ≤ i → ((P (from + (i - from)) → ⊥) → ⊥) → P i
    held i low is =
        let same : from + (i - from) ≡ i = omega (arith, low) in
        elim (dec (from + (i - from))) [ inl there ↦ subst P same there | inr isnt ↦ absurd (is isnt) ]

    positive : (n : ℕ) → (P (from + n) → ⊥) → 0 < n
    positive zero not = let same : from ≡ from + 0 = omega arith in absurd (not (subst P same here))
    positive (suc n) not = omega arith

-- ---- the background

abbrev IsBest : (ℕ → ℕ) → (ℕ → ℕ) → ℕ → ℕ → Type 0
IsBest c v n k = (j : ℕ) → j < n → (c j ≤ c k) × (c j ≡ c k → v k ≤ v j)

-- of the first numbers one has the most, and the least value of those that have as many
best : (c v : ℕ → ℕ) (n : ℕ) → (k : ℕ) × (k < suc n) × IsBest c v (suc n) k
best c v zero = (0, omega arith, λ j l. let same : j ≡ 0 = omega arith in rw same (omega arith, λ e. omega arith))
best c v (suc n) =
    let (k, below, all) = best c v n in
    elim (cases_order (c (suc n)) (c k)) [
      | inl level ↦
          elim (cases_lt (v (suc n)) (v k)) [
            | inl less ↦ (suc n, omega arith, taken k all (omega (arith, level)) (λ e. omega (arith, less)))
            | inr more ↦ (k, omega (arith, below), kept k all (omega (arith, level)) (λ e. omega (arith, more)))
          ]
      | inr apart ↦
          elim apart [
            | inl less ↦
                (k, omega (arith, below), kept k all (omega (arith, less)) (λ e. absurd (omega (arith, less, e))))
            | inr more ↦ (suc n, omega arith, taken k all (omega (arith, more)) (λ e. absurd (omega (arith, more, e))))
          ]
    ]
  where
    kept : (k : ℕ) → IsBest c v (suc n) k → c (suc n) ≤ c k → (c (suc n) ≡ c k → v k ≤ v (suc n)) →
        IsBest c v (suc (suc n)) k
    kept k all low tie j l = elim (cases_lt j (suc n)) [
      | inl less ↦ all j less
      | inr more ↦ let same : j ≡ suc n = omega arith in rw same (low, tie)
    ]

    taken : (k : ℕ) → IsBest c v (suc n) k → c k ≤ c (suc n) → (c k ≡ c (suc n) → v (suc n) ≤ v k) →
        IsBest c v (suc (suc n)) (suc n)
    taken k all high tie j l = elim (cases_lt j (suc n)) [
      | inl less ↦
          let (low, other) = all j less in (
            omega (arith, low, high),
            λ e.
                let level : c k ≡ c (suc n) = omega (arith, e, low, high) in
                let first = tie level in
                let second = other (omega (arith, e, level)) in
                omega (arith, first, second),
          )
      | inr more ↦ let same : j ≡ suc n = omega arith in rw same (omega arith, λ e. omega arith)
    ]

pub some_background : (pixels : List ℕ) → 0 < length pixels → (b : ℕ) × IsBackground pixels b
some_background pixels some =
    let c : ℕ → ℕ = λ i. places_of (slice_index pixels i) pixels in
    let v : ℕ → ℕ = λ i. slice_index pixels i in
    let (k, below, all) = best c v (length pixels - 1) in (
      slice_index pixels k,
      record {
        there = (k, omega (arith, below, some), refl);
        most = λ other there. rw there.2 (all there.0 (omega (arith, there.1))).0;
        least = λ other there e. rw there.2 ((all there.0 (omega (arith, there.1))).1 (rw there.2 at e));
      },
    )

-- ---- the subrectangles

module _ (w h : ℕ) (pixels : List ℕ) (background : ℕ) where
  decide_free : (before : List Subrect) (pixel x y : ℕ) → Decided (IsFree w pixels before pixel x y)
  decide_free before pixel x y =
      elim (cases_eq (slice_index pixels (y * w + x)) pixel) [
        | inl same ↦ by (is_in_any before x y) refl same
        | inr other ↦ inr (λ free. other free.0)
      ]
    where
      by : (b : Bool) → is_in_any before x y ≡ b → slice_index pixels (y * w + x) ≡ pixel →
          Decided (IsFree w pixels before pixel x y)
      by true e same = inr (λ free. both_ways (is_in_any before x y) free.1 e)
      by false e same = inl (same, e)

  decide_left : (before : List Subrect) (x y : ℕ) → Decided (IsLeft w pixels background before x y)
  decide_left before x y =
      elim (cases_eq (slice_index pixels (y * w + x)) background) [
        | inl same ↦ inr (λ left. left.0 same)
        | inr other ↦ by (is_in_any before x y) refl other
      ]
    where
      by : (b : Bool) → is_in_any before x y ≡ b → slice_index pixels (y * w + x) ≢ background →
          Decided (IsLeft w pixels background before x y)
      by true e other = inr (λ left. both_ways (is_in_any before x y) left.1 e)
      by false e other = inl (other, e)

  decide_run : (before : List Subrect) (pixel x n y : ℕ) → Decided (IsFreeRun w pixels before pixel x (x + n) y)
  decide_run before pixel x n y =
      elim (first_hit (λ i. IsFree w pixels before pixel (x + i) y → ⊥)
      (λ i. turned (IsFree w pixels before pixel (x + i) y) (decide_free before pixel (x + i) y)) n) [
        | inl none ↦ inl (λ i low high.
            let same : x + (i - x) ≡ i = omega (arith, low) in
            elim (decide_free before pixel i y) [
              | inl there ↦ there
              | inr isnt ↦ absurd (none (i - x) (omega (arith, low, high))
                  (λ free. isnt (subst (λ (k : ℕ). IsFree w pixels before pixel k y) same free)))
            ])
        | inr found ↦ inr (λ run. found.2 (run (x + found.0) (omega arith) (omega (arith, found.1))))
      ]

  -- the next begins at the first place that is left
  next_at : (before : List Subrect) (k : ℕ) → k < h * w → IsLeft w pixels background before (k % w) (k / w) →
      ((i : ℕ) → i < k → IsLeft w pixels background before (i % w) (i / w) → ⊥) →
      (s : Subrect) × IsNextSub w h pixels background before s
  next_at before k below left first =
      let x = k % w in
      let y = k / w in
      let some : 0 < w = some_in_row k h w below in
      let column : x < w = mod_below k w some in
      let row : y < h = div_below k w h some below in
      let place : y * w + x ≡ k = div-add-mod' k w in
      let pixel = slice_index pixels (y * w + x) in
      let (n, wide, held, run, longest) = longest_run (λ i. IsFree w pixels before pixel i y)
      (λ i. decide_free before pixel i y) x w column (refl, left.1) in
      let (m, high, held_too, rows, lowest) = longest_run (λ j. IsFreeRun w pixels before pixel x (x + n) j)
      (λ j. decide_run before pixel x n j) y h row run in (
        record { pixel = pixel; rect = record { x = x; y = y; w = n; h = m } },
        record {
          inside = (held, held_too);
          wide = wide;
          high = high;
          left = left;
          first = λ i j p q before_it left_too.
              let less : j * w + i < k = elim before_it [
                | inl above ↦
                    let up : (j + 1) * w ≤ y * w = mul-le-mul_right w (omega (arith, above)) in
                    omega (arith, up, p, place)
                | inr (level, near) ↦
                    let same : j * w ≡ y * w = ap (λ (t : ℕ). t * w) level in
                    omega (arith, same, near, place)
              ] in
              first (j * w + i) less (rw (mod-mul-add j w i p, div-mul-add j w i p) left_too);
          pixel = refl;
          rows = rows;
          longest = longest;
          lowest = lowest;
        },
      )

  next_or_none : (before : List Subrect) → ((x y : ℕ) → x < w → y < h → IsLeft w pixels background before x y → ⊥)
      ⊎ ((s : Subrect) × IsNextSub w h pixels background before s)
  next_or_none before =
      elim (first_hit (λ k. IsLeft w pixels background before (k % w) (k / w))
      (λ k. decide_left before (k % w) (k / w)) (h * w)) [
        | inl none ↦ inl (λ x y p q left. none (y * w + x) (place_below w h x y p q)
            (rw (mod-mul-add y w x p, div-mul-add y w x p) left))
        | inr found ↦ inr (next_at before found.0 found.1 found.2 found.3)
      ]

  -- one after another: there are no more than places
  subs_from : (fuel : ℕ) (before : List Subrect) → length pixels ≡ h * w → IsPixelOf pixels background →
      AreNextSubs w h pixels background [] before → h * w < fuel + length before →
      (subs : List Subrect) × AreRuleSubs w h pixels background subs
  subs_from zero before whole plain each enough =
      let few = few_of w h pixels background before each whole in
      absurd (omega (arith, few, enough))
  subs_from (suc fuel) before whole plain each enough =
      elim (next_or_none before) [
        | inl none ↦ (before, record { each = each; none = none })
        | inr found ↦
            let size = length-append before (found.0 ∷ []) in
            subs_from fuel (before ++ found.0 ∷ []) whole plain
            (next_push w h pixels background [] before found.0 each found.1) (omega (arith, enough, size))
      ]

  pub some_subs : length pixels ≡ h * w → IsPixelOf pixels background →
      (subs : List Subrect) × AreRuleSubs w h pixels background subs
  some_subs whole plain = subs_from (suc (h * w)) [] whole plain tt (omega arith)
