-- What a set has after it lost the places of another in some of the other's cells: rows of cells, and
-- the cells of a row.
use Rattle.std.proofs.Common.{ℕ, Bool, true, false, ◌≡◌, ◌+◌, ◌/◌}
use Rattle.std.proofs.Common.{◌≤◌, ◌&&◌, ◌||◌, not, refl, ◌∙◌, arith}
use Rattle.std.proofs.Common.{nat_eq, nat_lt, inl, inr}
use Rattle.std.proofs.lemmas.Bool.{cases_lt, cases_eq, cases_Bool, both_ways, false≢true}
use Rattle.std.proofs.lemmas.Bool.Decides.{nat_tests}
use Rattle.rfb_picture.specs.declared.place_set.layers.Layers.{Layers}
use Rattle.rfb_picture.specs.Box.{is_in}
use Rattle.rfb_picture.specs.layout.Marks.{AreRowsClear, IsNext}
use Rattle.rfb_picture.specs.layout.PlaceSet.{in_set, in_part, IsLayers, AreAlike, HasLost}
use Rattle.rfb_picture.proofs.TakenWordLemmas.{and_true}
use Rattle.rfb_picture.proofs.PlaceSetLemmas.{cell_below}

-- ---- rows of cells

lost_twice : (s a b p : Bool) → ((s && not (a && p)) && not (b && p)) ≡ (s && not ((a || b) && p))
lost_twice true true true true = refl
lost_twice true true true false = refl
lost_twice true true false true = refl
lost_twice true true false false = refl
lost_twice true false b p = refl
lost_twice false a b p = refl

no_part : (t f u p : Bool) → u ≡ false → (t && (not f && (u && p))) ≡ false
no_part true true u p e = refl
no_part true false u p e = rw e refl
no_part false f u p e = refl

-- one row more, of which the set lost its places
pub rows_more : (row : ℕ) (other old mid new : Layers) →
    HasLost (λ _ j. nat_lt j row) other old mid →
    HasLost (λ _ j. nat_eq j row) other mid new →
    HasLost (λ _ j. nat_lt j (row + 1)) other old new
rows_more row other old mid new first second = record {
  sound = second.sound;
  alike = (second.alike.0 ∙ first.alike.0, second.alike.1 ∙ first.alike.1);
  each = λ x y p q.
      let here = second.each x y (rw first.alike.0 p) (rw first.alike.1 q) in
      let same : nat_lt (y / 64) (row + 1) ≡ (nat_lt (y / 64) row || nat_eq (y / 64) row) =
      grind (arith, nat_tests) in
      rw same (here
      ∙ (rw (first.each x y p q)
      (lost_twice (in_set old x y) (nat_lt (y / 64) row) (nat_eq (y / 64) row)
      (in_part other x y))));
}

-- one row more, of which the other set uses no cell
either_off : (b : Bool) → (b || b) ≡ false → b ≡ false
either_off true e = absurd cc
either_off false e = refl

-- before the first row nothing is lost
pub none_lost : (other old : Layers) → IsLayers old → HasLost (λ _ j. nat_lt j 0) other old old
none_lost other old sound = record {
  sound = sound;
  alike = (refl, refl);
  each = λ x y p q.
      let none : nat_lt (y / 64) 0 ≡ false = grind (arith, nat_tests) in
      rw (none, and_true) refl;
}

-- rows in which the other uses no cell lose nothing
pub rows_passed : (row next : ℕ) (other old new : Layers) →
    IsLayers other →
    AreAlike old other →
    row ≤ next →
    AreRowsClear (λ i j. is_in other.used i j || is_in other.used i j) other.used.width row next →
    HasLost (λ _ j. nat_lt j row) other old new →
    HasLost (λ _ j. nat_lt j next) other old new
rows_passed row next other old new sound alike order none lost = record {
  sound = lost.sound;
  alike = lost.alike;
  each = λ x y p q.
      let i = cell_below x other.places.width other.used.width sound.used_wide (rw (← alike.0) p) in
      let was = lost.each x y p q in
      elim (cases_lt (y / 64) row) [
        | inl above ↦
            let before : nat_lt (y / 64) row ≡ true = grind (arith, nat_tests) in
            elim (cases_lt (y / 64) next) [
              | inl still ↦
                  let now : nat_lt (y / 64) next ≡ true = grind (arith, nat_tests) in
                  rw now (rw before at was)
              | inr no_more ↦ absurd (omega arith)
            ]
        | inr below ↦
            let before : nat_lt (y / 64) row ≡ false = grind (arith, nat_tests) in
            let kept = rw before at was in
            elim (cases_lt (y / 64) next) [
              | inl here ↦
                  let off : is_in other.used (x / 64) (y / 64) ≡ false =
                  either_off (is_in other.used (x / 64) (y / 64))
                  (none (x / 64) (y / 64) i below here) in
                  rw (no_part (nat_lt (y / 64) next) (is_in other.full (x / 64) (y / 64)) _
                  (is_in other.places x y) off) kept
              | inr after ↦
                  let now : nat_lt (y / 64) next ≡ false = grind (arith, nat_tests) in
                  rw now kept
            ]
      ];
}

no_loss : (s a b c p : Bool) → p ≡ false →
    ((s && not (a && p)) && not (b && p)) ≡ (s && not (c && p))
no_loss true a b c p e = rw (e, and_no, and_no, and_no) refl
  where
    and_no : (b : Bool) → (b && false) ≡ false
    and_no true = refl
    and_no false = refl
no_loss false a b c p e = refl

-- a part is of a cell that is used
used_of_part : (f u p : Bool) → (not f && (u && p)) ≡ true → u ≡ true
used_of_part true u p e = absurd (false≢true e)
used_of_part false true p e = refl
used_of_part false false p e = absurd (false≢true e)

-- one cell more of a row: the next that the other set uses
pub cells_more : (row from column : ℕ) (other old mid new : Layers) →
    IsNext (is_in other.used) row from other.used.width column →
    HasLost (λ i j. nat_eq j row && nat_lt i from) other old mid →
    HasLost (λ i j. nat_eq i column && nat_eq j row) other mid new →
    HasLost (λ i j. nat_eq j row && nat_lt i (column + 1)) other old new
cells_more row from column other old mid new next first second = record {
  sound = second.sound;
  alike = (second.alike.0 ∙ first.alike.0, second.alike.1 ∙ first.alike.1);
  each = λ x y p q.
      let i = x / 64 in
      let j = y / 64 in
      let here = second.each x y (rw first.alike.0 p) (rw first.alike.1 q) in
      let both : in_set new x y
      ≡ ((in_set old x y && not ((nat_eq j row && nat_lt i from) && in_part other x y))
      && not ((nat_eq i column && nat_eq j row) && in_part other x y)) =
      here ∙ (rw (first.each x y p q) refl) in
      elim (cases_Bool (in_part other x y)) [
        | inl part ↦
            let own = used_of_part (is_in other.full i j) (is_in other.used i j) (is_in other.places x y) part in
            let same : (nat_eq j row && nat_lt i (column + 1))
            ≡ ((nat_eq j row && nat_lt i from) || (nat_eq i column && nat_eq j row)) =
            elim (cases_eq j row) [
              | inl e ↦ elim (cases_lt i from) [
                | inl l ↦ let after = next.after in grind (arith, nat_tests)
                | inr m ↦ elim (cases_lt i column) [
                  | inl l ↦ absurd (both_ways (is_in other.used i row) (next.none i m l) (rw e at own))
                  | inr n ↦ grind (arith, nat_tests)
                ]
              ]
              | inr e ↦ grind (arith, nat_tests)
            ] in
            rw same (both
            ∙ lost_twice (in_set old x y) (nat_eq j row && nat_lt i from)
            (nat_eq i column && nat_eq j row) (in_part other x y))
        | inr none ↦
            both
            ∙ no_loss (in_set old x y) (nat_eq j row && nat_lt i from)
            (nat_eq i column && nat_eq j row) (nat_eq j row && nat_lt i (column + 1)) (in_part other x y) none
      ];
}
