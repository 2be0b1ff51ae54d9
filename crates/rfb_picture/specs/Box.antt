-- The least rectangle that holds the marked places of another.
use Rattle.std.specs.Prelude.{ℕ, Bool, true, false, ◌≡◌, ◌+◌, ◌-◌, ◌<◌, ◌≤◌, Option, MatchOption}
use Rattle.rfb_picture.specs.declared.rect.Rect.{Rect}
use Rattle.rfb_picture.specs.Rect.{contains}
use Rattle.rfb_picture.specs.Grid.{Grid, at_or}

-- the place is in the set
abbrev pub is_in : Grid Bool → ℕ → ℕ → Bool
is_in g x y = at_or g x y false

-- no place from column x0 up to x1, and from row y0 up to y1, is marked
abbrev pub IsClear : (ℕ → ℕ → Bool) → ℕ → ℕ → ℕ → ℕ → Type 0
IsClear p x0 x1 y0 y1 = (x y : ℕ) → x0 ≤ x → x < x1 → y0 ≤ y → y < y1 → p x y ≡ false

-- the rectangle has a place, and each of its outer columns and rows has a marked one
pub record IsTight (p : ℕ → ℕ → Bool) (r : Rect) : Type 0 where
  pub some : (0 < r.w) × (0 < r.h)
  pub left : (y : ℕ) × (contains r r.x y ≡ true) × (p r.x y ≡ true)
  pub right : (y : ℕ) × (contains r (r.x + r.w - 1) y ≡ true) × (p (r.x + r.w - 1) y ≡ true)
  pub top : (x : ℕ) × (contains r x r.y ≡ true) × (p x r.y ≡ true)
  pub bottom : (x : ℕ) × (contains r x (r.y + r.h - 1) ≡ true) × (p x (r.y + r.h - 1) ≡ true)

-- the rectangle lies in the cell, holds each marked place of the cell, and is
-- no larger than that takes
pub record IsBox (p : ℕ → ℕ → Bool) (cell r : Rect) : Type 0 where
  pub within : (cell.x ≤ r.x) × (r.x + r.w ≤ cell.x + cell.w) × (cell.y ≤ r.y)
      × (r.y + r.h ≤ cell.y + cell.h)
  pub holds : (x y : ℕ) → contains cell x y ≡ true → p x y ≡ true → contains r x y ≡ true
  pub tight : IsTight p r

-- the cell's marked places have this box, or it has no marked place
abbrev pub HasBox : (ℕ → ℕ → Bool) → Rect → Option Rect → Type 0
HasBox p cell found =
    MatchOption found (IsClear p cell.x (cell.x + cell.w) cell.y (cell.y + cell.h))
    (λ r. IsBox p cell r)
