-- Cells of a picture, each of 64 columns and 64 rows of places, fewer at its right and lower edge,
-- and rectangles by cells. No public clause reads these words.
use Rattle.std.specs.Prelude.{ℕ, Bool, ◌≡◌, ◌+◌, ◌-◌, ◌*◌, ◌/◌, ◌<◌, ◌≤◌, ◌&&◌, ◌||◌, nat_le, nat_lt, min, max}
use Rattle.rfb_picture.specs.declared.rect.Rect.{Rect}
use Rattle.rfb_picture.specs.declared.place_set.parts.Parts.{Parts}
use Rattle.rfb_picture.specs.Rect.{contains}
use Rattle.rfb_picture.specs.CellOrder.{cells_in}

-- ---- cells

-- the places of cell (i, j)
abbrev pub cell_at : ℕ → ℕ → Rect
cell_at i j = record { x = i * 64; y = j * 64; w = 64; h = 64 }

-- cell (i, j) as a rectangle of cells
abbrev pub one_cell : ℕ → ℕ → Rect
one_cell i j = record { x = i; y = j; w = 1; h = 1 }

-- the places of row y in the cells of column i, which are of one word
abbrev pub word_places : ℕ → ℕ → Rect
word_places i y = record { x = i * 64; y = y; w = 64; h = 1 }

-- the cells that have the rectangle's places, as a rectangle of cells
abbrev pub touched : Rect → Rect
touched r =
    record {
      x = r.x / 64;
      y = r.y / 64;
      w = cells_in (r.x + r.w) - r.x / 64;
      h = cells_in (r.y + r.h) - r.y / 64;
    }

-- the rectangle's part in the cells of column i
abbrev pub in_column : Rect → ℕ → Rect
in_column r i =
    record {
      x = max r.x (i * 64);
      y = r.y;
      w = min (r.x + r.w) (i * 64 + 64) - max r.x (i * 64);
      h = r.h;
    }

-- the rectangle's part in the cells of row j
abbrev pub in_row : Rect → ℕ → Rect
in_row r j =
    record {
      x = r.x;
      y = max r.y (j * 64);
      w = r.w;
      h = min (r.y + r.h) (j * 64 + 64) - max r.y (j * 64);
    }

-- the places of a picture of that size in the cell at that column and row of cells
abbrev pub zone_of : ℕ → ℕ → ℕ → ℕ → Rect
zone_of width height column row =
    in_row (in_column (record { x = 0; y = 0; w = width; h = height }) column) row

-- ---- a rectangle by cells

-- place x of a row is one of the count places from the first on
abbrev pub in_span : ℕ → ℕ → ℕ → Bool
in_span first count x = nat_le first x && nat_lt x (first + count)

-- each place of cell i of a row of that size lies from one place up to another
abbrev pub is_whole : ℕ → ℕ → ℕ → ℕ → Bool
is_whole from to size i = nat_le from (i * 64) && nat_le (min (i * 64 + 64) size) to

-- if those places of a row of that size are any, they are all the places of their cells
abbrev pub IsOfCells : ℕ → ℕ → ℕ → Type 0
IsOfCells first count size =
    0 < count → (x : ℕ) → x < size →
    in_span first count x
    ≡ in_span (first / 64) (cells_in (first + count) - first / 64) (x / 64)

-- the second rectangle goes no further than the first
abbrev pub Ends : Rect → Rect → Type 0
Ends r part = (part.x + part.w ≤ r.x + r.w) × (part.y + part.h ≤ r.y + r.h)

-- the inner part has the places of those cells that the rectangle has whole, of that many columns
-- and rows of places, and the parts have the rectangle's places
pub record IsParts (width height : ℕ) (r : Rect) (p : Parts) : Type 0 where
  pub whole : (x y : ℕ) → x < width → y < height →
      contains p.inner x y
      ≡ (is_whole r.x (r.x + r.w) width (x / 64) && is_whole r.y (r.y + r.h) height (y / 64))
  pub columns : IsOfCells p.inner.x p.inner.w width
  pub rows : IsOfCells p.inner.y p.inner.h height
  pub inner_ends : Ends r p.inner
  pub above_ends : Ends r p.above
  pub below_ends : Ends r p.below
  pub left_ends : Ends r p.left
  pub right_ends : Ends r p.right
  pub all : (x y : ℕ) →
      contains r x y
      ≡ (contains p.inner x y || contains p.above x y || contains p.below x y
      || contains p.left x y || contains p.right x y)
