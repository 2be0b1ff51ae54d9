-- Cells in reading order, row by row from the top left, and the next of them in which a set has a
-- place.
use Rattle.std.specs.Prelude.{ℕ, Bool, true, false, ◌≡◌, ◌+◌, ◌*◌, ◌/◌, ◌<◌, ◌≤◌, ◌&&◌, Option, MatchOption}
use Rattle.std.specs.Int.{div_ceil}

-- how many cells a row of n places needs; the last may be smaller
abbrev pub cells_in : ℕ → ℕ
cells_in n = div_ceil n 64

-- the number of a place's cell, where a row has that many cells
abbrev pub cell_of : ℕ → ℕ → ℕ → ℕ
cell_of across x y = y / 64 * across + x / 64

-- of a picture of that size, no place is marked in the cells from one number up to another
abbrev pub NoneInCells : (ℕ → ℕ → Bool) → ℕ → ℕ → ℕ → ℕ → Type 0
NoneInCells p width height from to =
    (x y : ℕ) → x < width → y < height → from ≤ cell_of (cells_in width) x y →
    cell_of (cells_in width) x y < to → p x y ≡ false

-- a place of the cell of that number is marked
pub record HasPlaceIn (p : ℕ → ℕ → Bool) (width height cell : ℕ) : Type 0 where
  pub x : ℕ
  pub y : ℕ
  pub on_picture : (x < width) × (y < height)
  pub in_cell : cell_of (cells_in width) x y ≡ cell
  pub marked : p x y ≡ true

-- it is the first cell from one number on that has a marked place
pub record IsNextCell (p : ℕ → ℕ → Bool) (width height from cell : ℕ) : Type 0 where
  pub after : from ≤ cell
  pub is_cell : cell < cells_in width * cells_in height
  pub none : NoneInCells p width height from cell
  pub here : HasPlaceIn p width height cell

-- that cell is it, or there is none
abbrev pub HasNextCell : (ℕ → ℕ → Bool) → ℕ → ℕ → ℕ → Option ℕ → Type 0
HasNextCell p width height from found =
    MatchOption found (NoneInCells p width height from (cells_in width * cells_in height))
    (λ cell. IsNextCell p width height from cell)

-- it is the first cell from one number on in which two sets have a place each; no cell between has
-- a place that is in both
pub record IsNextOfBoth (p q : ℕ → ℕ → Bool) (width height from cell : ℕ) : Type 0 where
  pub after : from ≤ cell
  pub is_cell : cell < cells_in width * cells_in height
  pub none : NoneInCells (λ x y. p x y && q x y) width height from cell
  pub first : HasPlaceIn p width height cell
  pub second : HasPlaceIn q width height cell

-- that cell is it, or no cell from that number on has a place that is in both
abbrev pub HasNextOfBoth : (ℕ → ℕ → Bool) → (ℕ → ℕ → Bool) → ℕ → ℕ → ℕ → Option ℕ → Type 0
HasNextOfBoth p q width height from found =
    MatchOption found
    (NoneInCells (λ x y. p x y && q x y) width height from (cells_in width * cells_in height))
    (λ cell. IsNextOfBoth p q width height from cell)

-- it is a cell from one number on, and no cell before it has a marked place; it need have none
pub record IsCandidate (p : ℕ → ℕ → Bool) (width height from cell : ℕ) : Type 0 where
  pub after : from ≤ cell
  pub is_cell : cell < cells_in width * cells_in height
  pub none : NoneInCells p width height from cell

-- that cell is one, or no cell from that number on has a marked place
abbrev pub HasCandidate : (ℕ → ℕ → Bool) → ℕ → ℕ → ℕ → Option ℕ → Type 0
HasCandidate p width height from found =
    MatchOption found (NoneInCells p width height from (cells_in width * cells_in height))
    (λ cell. IsCandidate p width height from cell)
