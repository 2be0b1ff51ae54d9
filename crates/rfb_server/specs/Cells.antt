-- The cells of a screen: squares of 64 by 64 places from its top left corner, smaller at its right
-- and lower edge. They are numbered row by row.
use Rattle.std.specs.Prelude.{◌≡◌, ℕ, ◌+◌, ◌-◌, ◌*◌, ◌/◌, ◌%◌, ◌<◌, ◌≤◌, min, true}
use Rattle.std.specs.Int.{div_ceil}
use Rattle.rfb_picture.specs.declared.rect.Rect.{Rect}
use Rattle.rfb_picture.specs.Rect.{contains}

-- the number of a place's cell, where a row has `across` cells
abbrev pub cell_of : ℕ → ℕ → ℕ → ℕ
cell_of across x y = y / 64 * across + x / 64

-- the cell of that number, of a screen of that size
abbrev pub cell_at : ℕ → ℕ → ℕ → Rect
cell_at width height index = record {
  x = index % div_ceil width 64 * 64;
  y = index / div_ceil width 64 * 64;
  w = min (width - index % div_ceil width 64 * 64) 64;
  h = min (height - index / div_ceil width 64 * 64) 64;
}

-- the rectangle is the cell of that number: it has the places of the cell that lie on a screen of
-- that size
pub record IsCell (width height across index : ℕ) (cell : Rect) : Type 0 where
  pub held : (cell.x + cell.w ≤ width) × (cell.y + cell.h ≤ height)
  pub sides : (cell.w ≤ 64) × (cell.h ≤ 64)
  pub inside : (x y : ℕ) → contains cell x y ≡ true → cell_of across x y ≡ index
  pub all : (x y : ℕ) → x < width → y < height → cell_of across x y ≡ index →
      contains cell x y ≡ true
