-- Cells up to a number in which no place is in both of two sets, on the way to the next that may have one.
use Rattle.std.proofs.Common.{ℕ, Bool, true, false, refl, ◌≡◌, ◌+◌, ◌≤◌, ◌&&◌, arith, inl, inr}
use Rattle.std.proofs.lemmas.Bool.{cases_lt}
use Rattle.rfb_picture.specs.Grid.{Grid}
use Rattle.rfb_picture.specs.Box.{is_in}
use Rattle.rfb_picture.specs.CellOrder.{cells_in, cell_of, NoneInCells}

-- no cell from one number up to another has a place that is in both
pub record AreApart (a b : Grid Bool) (from at : ℕ) : Type 0 where
  pub order : from ≤ at
  pub none : NoneInCells (λ x y. is_in a x y && is_in b x y) a.width a.height from at

and_off : (a b : Bool) → b ≡ false → (a && b) ≡ false
and_off true b e = e
and_off false b e = refl

-- no place is in both before a cell, nor in one of both from there on
pub apart_more : (a b : Grid Bool) (from at here next : ℕ) →
    a.width ≡ b.width →
    a.height ≡ b.height →
    at ≤ here →
    here + 1 ≤ next →
    AreApart a b from at →
    NoneInCells (is_in a) a.width a.height at here →
    NoneInCells (is_in b) b.width b.height here (here + 1) →
    NoneInCells (is_in b) b.width b.height (here + 1) next →
    AreApart a b from next
apart_more a b from at here next wide high order after so_far first second third =
    let until = so_far.order in
    record {
      order = omega (arith, until);
      none = λ x y p q low below.
          let number = cell_of (cells_in a.width) x y in
          elim (cases_lt number at) [
            | inl before ↦ so_far.none x y p q low before
            | inr l ↦ elim (cases_lt number here) [
              | inl before ↦ let none = first x y p q l before in rw none refl
              | inr m ↦ elim (cases_lt number (here + 1)) [
                | inl before ↦
                    and_off (is_in a x y) (is_in b x y)
                    (second x y (rw (← wide) p) (rw (← high) q) (rw (← wide) m) (rw (← wide) before))
                | inr n ↦
                    and_off (is_in a x y) (is_in b x y)
                    (third x y (rw (← wide) p) (rw (← high) q) (rw (← wide) n) (rw (← wide) below))
              ]
            ]
          ];
    }
