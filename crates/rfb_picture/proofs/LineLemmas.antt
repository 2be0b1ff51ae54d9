-- Laws of places whose rows are in lines: which place is whose, and what a row more changes.
use Rattle.std.proofs.Common.{ℕ, List, ◌≡◌, ◌+◌, ◌-◌, ◌*◌, ◌<◌, ◌≤◌, ◌∙◌, arith}
use Rattle.std.proofs.Common.{length, slice_index_or}
use Rattle.std.proofs.Common.{nat_le, nat_lt, ◌&&◌, inl, inr, true, if◌then◌else◌}
use Rattle.std.proofs.lemmas.Bool.{cases_order}
use Rattle.std.proofs.lemmas.Bool.Decides.{nat_tests}
use Rattle.std.proofs.Math.Nat.{mul-le-mul_right}
use Rattle.rfb_picture.specs.declared.rect.Rect.{Rect}
use Rattle.rfb_picture.specs.Rect.{contains}
use Rattle.rfb_picture.specs.layout.Lines.{AreLines, IsKept, place_in}
use Rattle.rfb_picture.proofs.GridLemmas.{index_in_row, contains_true, contains_more, either}

-- a part of a row ends before the places do
pub line_fits : {X : Type 0} {w h : ℕ} {lines : List ℕ} {places : List X} (x y n : ℕ) →
    IsKept w h lines places → y < h → x + n ≤ w → place_in lines w x y + n ≤ length places
line_fits {w = w} {h = h} {lines = lines} {places = places} x y n kept q p =
    let over : (slice_index_or lines y 0 + 1) * w ≤ h * w =
    mul-le-mul_right w (omega (arith, kept.lines_are.there y q)) in
    let whole : length places ≡ h * w = kept.whole in
    grind arith

-- the line of another row is another line, so it is in no rectangle of the first one
other_line : (h : ℕ) (lines : List ℕ) (x0 y0 n x y : ℕ) → AreLines h lines → y0 < h → y < h →
    (y ≡ y0 → ⊥) → contains (record { x = x0; y = slice_index_or lines y0 0; w = n; h = 1 }) x
    (slice_index_or lines y 0) ≡ contains (record { x = x0; y = y0; w = n; h = 1 }) x y
other_line h lines x0 y0 n x y are q0 q other =
    elim (cases_order (slice_index_or lines y 0) (slice_index_or lines y0 0)) [
      | inl e ↦ absurd (other (are.apart y y0 q q0 e))
      | inr (inl l) ↦
          elim (cases_order y y0) [
            | inl e ↦ absurd (other e)
            | inr (inl k) ↦ grind (arith, nat_tests)
            | inr (inr k) ↦ grind (arith, nat_tests)
          ]
      | inr (inr l) ↦
          elim (cases_order y y0) [
            | inl e ↦ absurd (other e)
            | inr (inl k) ↦ grind (arith, nat_tests)
            | inr (inr k) ↦ grind (arith, nat_tests)
          ]
    ]

in_line : (h : ℕ) (lines : List ℕ) (x0 y0 n x y : ℕ) → AreLines h lines → y0 < h → y < h →
    contains (record { x = x0; y = slice_index_or lines y0 0; w = n; h = 1 }) x (slice_index_or lines y 0)
    ≡ contains (record { x = x0; y = y0; w = n; h = 1 }) x y
in_line h lines x0 y0 n x y are q0 q =
    elim (cases_order y y0) [
      | inl e ↦ rw e (grind (arith, nat_tests))
      | inr (inl l) ↦ other_line h lines x0 y0 n x y are q0 q (λ e. absurd (omega arith))
      | inr (inr l) ↦ other_line h lines x0 y0 n x y are q0 q (λ e. absurd (omega arith))
    ]

-- a place is one of n from another one on in its row where it lies in their rectangle
pub index_in_line : (w h : ℕ) (lines : List ℕ) (x0 y0 n x y : ℕ) → AreLines h lines → y0 < h → y < h →
    x0 + n ≤ w → x < w →
    (nat_le (place_in lines w x0 y0) (place_in lines w x y)
    && nat_lt (place_in lines w x y) (place_in lines w x0 y0 + n))
    ≡ contains (record { x = x0; y = y0; w = n; h = 1 }) x y
index_in_line w h lines x0 y0 n x y are q0 q p l =
    index_in_row x0 (slice_index_or lines y0 0) n w x (slice_index_or lines y 0) p l
    ∙ in_line h lines x0 y0 n x y are q0 q

-- in the rectangle of a row, the distance of a place from the first one is that of its column
pub column_in_line : (lines : List ℕ) (x0 y0 n w x y : ℕ) →
    contains (record { x = x0; y = y0; w = n; h = 1 }) x y ≡ true →
    (place_in lines w x y - place_in lines w x0 y0 ≡ x - x0) × (x - x0 < n)
column_in_line lines x0 y0 n w x y e =
    let h = contains_true (record { x = x0; y = y0; w = n; h = 1 }) x y e in
    let same : y ≡ y0 = omega arith in
    (rw same (omega arith), omega arith)

module _ {X : Type 0} where
  -- with the places of one row more, a rectangle of one row more has the value
  pub line_filled : (w h : ℕ) (lines : List ℕ) (r : Rect) (n x y : ℕ) (now before first value : X) →
      AreLines h lines → r.x + r.w ≤ w → r.y + n < h → x < w → y < h →
      before ≡ (if contains (record r { h = n }) x y then value else first) →
      now ≡ (if nat_le (place_in lines w r.x (r.y + n)) (place_in lines w x y)
      && nat_lt (place_in lines w x y) (place_in lines w r.x (r.y + n) + r.w) then value else before) →
      now ≡ (if contains (record r { h = n + 1 }) x y then value else first)
  line_filled w h lines r n x y now before first value are p q l m was is =
      let row = index_in_line w h lines r.x (r.y + n) r.w x y are q m p l in
      rw (contains_more r n x y)
      (either (contains (record r { h = n }) x y) _ now value first (rw (row, was) at is))
