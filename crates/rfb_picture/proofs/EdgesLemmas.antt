-- Edges of marked places: of words one above the other, and of parts put together.
use Rattle.std.proofs.Common.{ℕ, Bool, true, false, Option, Some, None, ◌≡◌, ◌+◌, ◌-◌, ◌<◌, ◌||◌, min, max, refl, sym}
use Rattle.std.proofs.Common.{◌∙◌, arith, inl, inr, subst}
use Rattle.std.specs.Int.{w64, trailing_zeros, leading_zeros}
use Rattle.std.proofs.lemmas.Bool.{cases_lt, both_ways, false_from_ne_true, or_cases, or_left, or_right}
use Rattle.rfb_picture.specs.declared.rect.Rect.{Rect}
use Rattle.rfb_picture.specs.declared.edges.Edges.{Edges}
use Rattle.rfb_picture.specs.declared.edges.Gathered.{Gathered}
use Rattle.rfb_picture.specs.Rect.{contains}
use Rattle.rfb_picture.specs.layout.Edges.{IsEdges, HasEdges, IsGathered}
use Rattle.rfb_picture.proofs.GridLemmas.{contains_true, contains_row}
use Rattle.rfb_picture.proofs.GatherLemmas.{some_bit, first_bit, last_bit}

-- ---- edges

-- the edges of words one above the other
pub edges_of_column : (q : ℕ → ℕ → Bool) (start top bottom : ℕ) (g : Gathered) →
    IsGathered q top bottom g →
    IsEdges (λ x y. q y (x - start)) (record { x = start; y = top; w = 64; h = bottom - top })
    (record {
      left = start + trailing_zeros w64 g.bits;
      right = start + 63 - leading_zeros w64 g.bits;
      top = g.top;
      bottom = g.bottom;
    })
edges_of_column q start top bottom g is =
    let zone : Rect = record { x = start; y = top; w = 64; h = bottom - top } in
    let p : ℕ → ℕ → Bool = λ x y. q y (x - start) in
    let there : (i : ℕ) → i < 64 → start + i - start ≡ i = λ i m. omega arith in
    let at : (y i : ℕ) → q y i ≡ true → p (start + i) y ≡ true =
    λ y i e. let same : start + i - start ≡ i = omega arith in rw same e in
    let high = is.at_top in
    let low = is.at_bottom in
    let some = some_bit g.bits high.0 (is.each g.top high.0 high.1 high.2 high.3 high.4).0 in
    let first = first_bit g.bits some is.small in
    let last = last_bit g.bits some is.small in
    let left = is.some (trailing_zeros w64 g.bits) first.0 first.1 in
    let right = is.some (63 - leading_zeros w64 g.bits) (omega arith) last.1 in
    let far : start + 63 - leading_zeros w64 g.bits ≡ start + (63 - leading_zeros w64 g.bits) =
    omega (arith, last.0) in
    record {
      holds = λ x y c m.
          let (x0, x1, y0, y1) = contains_true zone x y c in
          let bit = is.each y (x - start) y0 (omega arith) (omega arith) m in (
            omega (arith, first.2 (x - start) bit.0),
            omega (arith, last.2 (x - start) bit.0, last.0),
            bit.1,
            bit.2,
          );
      at_left = (
        left.0,
        contains_row zone _ left.0 (omega arith) (omega (arith, first.0)) left.1
            (omega (arith, left.1, left.2)),
        at left.0 _ left.3,
      );
      at_right = rw far (
        right.0,
        contains_row zone _ right.0 (omega arith) (omega arith) right.1
            (omega (arith, right.1, right.2)),
        at right.0 _ right.3,
      );
      at_top = (
        start + high.0,
        contains_row zone _ g.top (omega arith) (omega (arith, high.3)) high.1
            (omega (arith, high.1, high.2)),
        at g.top high.0 high.4,
      );
      at_bottom = (
        start + low.0,
        contains_row zone _ g.bottom (omega arith) (omega (arith, low.3)) low.1
            (omega (arith, low.1, low.2)),
        at g.bottom low.0 low.4,
      );
    }

-- where the marked places of two zones are the same, so are their edges
edges_same : (p q : ℕ → ℕ → Bool) (zone all : Rect) (e : Edges) →
    ((x y : ℕ) → contains zone x y ≡ true → p x y ≡ true →
    (contains all x y ≡ true) × (q x y ≡ true)) →
    ((x y : ℕ) → contains all x y ≡ true → q x y ≡ true →
    (contains zone x y ≡ true) × (p x y ≡ true)) →
    IsEdges p zone e → IsEdges q all e
edges_same p q zone all e there back was =
    let (y0, in0, m0) = was.at_left in
    let (y1, in1, m1) = was.at_right in
    let (x0, in2, m2) = was.at_top in
    let (x1, in3, m3) = was.at_bottom in
    let left = there e.left y0 in0 m0 in
    let right = there e.right y1 in1 m1 in
    let top = there x0 e.top in2 m2 in
    let bottom = there x1 e.bottom in3 m3 in
    record {
      holds = λ x y c m. let here = back x y c m in was.holds x y here.0 here.1;
      at_left = (y0, left.0, left.1);
      at_right = (y1, right.0, right.1);
      at_top = (x0, top.0, top.1);
      at_bottom = (x1, bottom.0, bottom.1);
    }

-- marks that are the same in the zone have the same edges
pub same_edges : (p q : ℕ → ℕ → Bool) (zone : Rect) (found : Option Edges) →
    ((x y : ℕ) → contains zone x y ≡ true → p x y ≡ q x y) → HasEdges p zone found →
    HasEdges q zone found
same_edges p q zone None same was = λ x y c. sym (same x y c) ∙ was x y c
same_edges p q zone (Some e) same was =
    edges_same p q zone zone e (λ x y c m. (c, sym (same x y c) ∙ m)) (λ x y c m. (c, same x y c ∙ m)) was

-- a part of the zone that has all its marked places has its edges
pub edges_within : (p : ℕ → ℕ → Bool) (part zone : Rect) (found : Option Edges) →
    ((x y : ℕ) → contains part x y ≡ true → contains zone x y ≡ true) →
    ((x y : ℕ) → contains zone x y ≡ true → p x y ≡ true → contains part x y ≡ true) →
    HasEdges p part found →
    HasEdges p zone found
edges_within p part zone None inside all was =
    λ x y c. false_from_ne_true (p x y) (λ m. both_ways (p x y) (was x y (all x y c m)) m)
edges_within p part zone (Some e) inside all was =
    edges_same p p part zone e (λ x y c m. (inside x y c, m)) (λ x y c m. (all x y c m, m)) was

-- ---- two parts

or_swap : (a b : Bool) → (a || b) ≡ (b || a)
or_swap true true = refl
or_swap true false = refl
or_swap false true = refl
or_swap false false = refl

-- the first has no mark
pub joined_second : (p : ℕ → ℕ → Bool) (first second all : Rect) (found : Option Edges) →
    ((x y : ℕ) → contains all x y ≡ (contains first x y || contains second x y)) →
    ((x y : ℕ) → contains first x y ≡ true → p x y ≡ false) →
    HasEdges p second found →
    HasEdges p all found
joined_second p first second all None parts clear was =
    λ x y c.
    elim (or_cases (contains first x y) (contains second x y) (sym (parts x y) ∙ c)) [
      | inl one ↦ clear x y one
      | inr other ↦ was x y other
    ]
joined_second p first second all (Some e) parts clear was =
    edges_same p p second all e
    (λ x y c m. (parts x y ∙ or_right (contains first x y) (contains second x y) c, m))
    (λ x y c m.
    elim (or_cases (contains first x y) (contains second x y) (sym (parts x y) ∙ c)) [
      | inl one ↦ absurd (both_ways (p x y) (clear x y one) m)
      | inr other ↦ (other, m)
    ]) was

-- the second has no mark
pub joined_first : (p : ℕ → ℕ → Bool) (first second all : Rect) (found : Option Edges) →
    ((x y : ℕ) → contains all x y ≡ (contains first x y || contains second x y)) →
    HasEdges p first found →
    ((x y : ℕ) → contains second x y ≡ true → p x y ≡ false) →
    HasEdges p all found
joined_first p first second all found parts was clear =
    joined_second p second first all found
    (λ x y. parts x y ∙ or_swap (contains first x y) (contains second x y)) clear was

least : (P : ℕ → Type 0) (a b : ℕ) → P a → P b → P (min a b)
least P a b p q =
    elim (cases_lt a b) [
      | inl l ↦ let e : a ≡ min a b = omega arith in subst P e p
      | inr l ↦ let e : b ≡ min a b = omega arith in subst P e q
    ]

most : (P : ℕ → Type 0) (a b : ℕ) → P a → P b → P (max a b)
most P a b p q =
    elim (cases_lt a b) [
      | inl l ↦ let e : b ≡ max a b = omega arith in subst P e q
      | inr l ↦ let e : a ≡ max a b = omega arith in subst P e p
    ]

-- both have marks
pub joined_both : (p : ℕ → ℕ → Bool) (first second all : Rect) (a b : Edges) →
    ((x y : ℕ) → contains all x y ≡ (contains first x y || contains second x y)) →
    IsEdges p first a →
    IsEdges p second b →
    IsEdges p all
    (record {
      left = min a.left b.left;
      right = max a.right b.right;
      top = min a.top b.top;
      bottom = max a.bottom b.bottom;
    })
joined_both p first second all a b parts is_a is_b =
    let in_a : (x y : ℕ) → contains first x y ≡ true → contains all x y ≡ true =
    λ x y c. parts x y ∙ or_left (contains first x y) (contains second x y) c in
    let in_b : (x y : ℕ) → contains second x y ≡ true → contains all x y ≡ true =
    λ x y c. parts x y ∙ or_right (contains first x y) (contains second x y) c in
    let Column : ℕ → Type 0 = λ x. (y : ℕ) × (contains all x y ≡ true) × (p x y ≡ true) in
    let Row : ℕ → Type 0 = λ y. (x : ℕ) × (contains all x y ≡ true) × (p x y ≡ true) in
    let (y0, i0, m0) = is_a.at_left in
    let (y1, i1, m1) = is_a.at_right in
    let (x0, i2, m2) = is_a.at_top in
    let (x1, i3, m3) = is_a.at_bottom in
    let (y4, i4, m4) = is_b.at_left in
    let (y5, i5, m5) = is_b.at_right in
    let (x6, i6, m6) = is_b.at_top in
    let (x7, i7, m7) = is_b.at_bottom in
    record {
      holds = λ x y c m.
          elim (or_cases (contains first x y) (contains second x y) (sym (parts x y) ∙ c)) [
            | inl one ↦ let h = is_a.holds x y one m in
                (omega (arith, h.0), omega (arith, h.1), omega (arith, h.2), omega (arith, h.3))
            | inr other ↦ let h = is_b.holds x y other m in
                (omega (arith, h.0), omega (arith, h.1), omega (arith, h.2), omega (arith, h.3))
          ];
      at_left = least Column a.left b.left (y0, in_a a.left y0 i0, m0) (y4, in_b b.left y4 i4, m4);
      at_right = most Column a.right b.right (y1, in_a a.right y1 i1, m1)
          (y5, in_b b.right y5 i5, m5);
      at_top = least Row a.top b.top (x0, in_a x0 a.top i2, m2) (x6, in_b x6 b.top i6, m6);
      at_bottom = most Row a.bottom b.bottom (x1, in_a x1 a.bottom i3, m3)
          (x7, in_b x7 b.bottom i7, m7);
    }
