-- What else a `Plane` of marks is asked: places of a rectangle taken away, rows with no mark, and
-- the next mark of a row. No public clause reads these words.
use Rattle.std.specs.Prelude.{ℕ, Bool, true, false, ◌≡◌, ◌<◌, ◌≤◌, ◌&&◌, not, Option, MatchOption}
use Rattle.rfb_picture.specs.declared.rect.Rect.{Rect}
use Rattle.rfb_picture.specs.Rect.{contains}
use Rattle.rfb_picture.specs.Grid.{Grid, changed}
use Rattle.rfb_picture.specs.Box.{is_in}
use Rattle.rfb_picture.specs.Places.{NoneInRow}

-- the set without those places of another that the rectangle has
abbrev pub without_in : Rect → Grid Bool → Grid Bool → Grid Bool
without_in r other g = changed (λ x y old. old && not (contains r x y && is_in other x y)) g

-- no place of the rows from one up to another, each of that many places, is marked
abbrev pub AreRowsClear : (ℕ → ℕ → Bool) → ℕ → ℕ → ℕ → Type 0
AreRowsClear p width from to =
    (x y : ℕ) → x < width → from ≤ y → y < to → p x y ≡ false

-- the column of the first marked place of row y from one column up to another
pub record IsNext (p : ℕ → ℕ → Bool) (y from to column : ℕ) : Type 0 where
  pub after : from ≤ column
  pub before : column < to
  pub none : NoneInRow p y from column
  pub here : p column y ≡ true

-- the first marked place of row y from one column up to another is at that column, or there is none
abbrev pub HasNext : (ℕ → ℕ → Bool) → ℕ → ℕ → ℕ → Option ℕ → Type 0
HasNext p y from to found = MatchOption found (NoneInRow p y from to) (λ x. IsNext p y from to x)
