-- How a `PlaceSet` holds which places are in it: by marks of its places, and by marks of its cells.
-- No public clause reads these words.
use Rattle.std.specs.Prelude.{ℕ, Bool, true, ◌≡◌, ◌+◌, ◌*◌, ◌/◌, ◌^◌, ◌<◌, ◌≤◌, ◌&&◌, ◌||◌, not, false, Option}
use Rattle.std.specs.Prelude.{MatchOption}
use Rattle.rfb_picture.specs.declared.rect.Rect.{Rect}
use Rattle.rfb_picture.specs.declared.place_set.layers.Layers.{Layers}
use Rattle.rfb_picture.specs.Rect.{contains}
use Rattle.rfb_picture.specs.Grid.{Grid, IsGrid, filled}
use Rattle.rfb_picture.specs.Box.{is_in}
use Rattle.rfb_picture.specs.layout.Plane.{marked}
use Rattle.rfb_picture.specs.layout.Cells.{cell_at, touched, word_places}
use Rattle.rfb_picture.specs.CellOrder.{cells_in}

-- cell (i, j) is in the set whole, or its places' marks count
abbrev pub is_open : Layers → ℕ → ℕ → Bool
is_open l i j = is_in l.full i j || is_in l.used i j

-- place (x, y) is in the set
abbrev pub in_set : Layers → ℕ → ℕ → Bool
in_set l x y =
    is_in l.full (x / 64) (y / 64) || (is_in l.used (x / 64) (y / 64) && is_in l.places x y)

-- the places, each true where it is in the set
abbrev pub layered : Layers → Grid Bool
layered l = marked l.places.width l.places.height (in_set l)

-- a row of a cell that is not noted has no mark. It is noted at the row's number in the row of
-- notes that has the cell's column
abbrev pub AreNoted : Layers → Type 0
AreNoted l =
    (x y : ℕ) → x < l.places.width → y < l.places.height → is_in l.places x y ≡ true →
    is_in l.noted y (x / 64) ≡ true

-- there is a mark for each place, two for each cell, and a note for each row of each column of
-- cells, by which marks are found; the sizes fit 16 bits
pub record IsLayers (l : Layers) : Type 0 where
  pub narrow : l.places.width < 2 ^ 16
  pub low : l.places.height < 2 ^ 16
  pub all_places : IsGrid l.places
  pub all_full : IsGrid l.full
  pub all_used : IsGrid l.used
  pub all_noted : IsGrid l.noted
  pub full_wide : l.full.width ≡ cells_in l.places.width
  pub full_high : l.full.height ≡ cells_in l.places.height
  pub used_wide : l.used.width ≡ cells_in l.places.width
  pub used_high : l.used.height ≡ cells_in l.places.height
  pub noted_wide : l.noted.width ≡ l.places.height
  pub noted_high : l.noted.height ≡ cells_in l.places.width
  pub marks_noted : AreNoted l

-- the rows of a rectangle in the columns of cells that have its places, among the notes
abbrev pub notes_of : Rect → Rect
notes_of r = record { x = r.y; y = (touched r).x; w = r.h; h = (touched r).w }

-- the rectangle's places are marked, and their rows noted
abbrev pub with_marks : Rect → Layers → Layers
with_marks r l = record {
  places = filled r true l.places;
  full = l.full;
  used = l.used;
  noted = filled (notes_of r) true l.noted;
}

-- no place of cell (i, j) is marked, and none of its rows noted
abbrev pub without_marks : ℕ → ℕ → Layers → Layers
without_marks i j l = record {
  places = filled (cell_at i j) false l.places;
  full = l.full;
  used = l.used;
  noted = filled (word_places j i) false l.noted;
}

-- the cells of the rectangle were opened: their places' marks count, unless they are in the set
-- whole. It has the places that it had
pub record IsOpened (cells : Rect) (old new : Layers) : Type 0 where
  pub sound : IsLayers new
  pub wide : new.places.width ≡ old.places.width
  pub high : new.places.height ≡ old.places.height
  pub same_full : new.full ≡ old.full
  pub same : (x y : ℕ) → x < old.places.width → y < old.places.height →
      in_set new x y ≡ in_set old x y
  pub kept : (i j : ℕ) → i < old.full.width → j < old.full.height → is_open old i j ≡ true →
      is_open new i j ≡ true
  pub opened : (i j : ℕ) → i < old.full.width → j < old.full.height → contains cells i j ≡ true →
      is_open new i j ≡ true

-- place (x, y) is in the set, in a cell that is not in it whole
abbrev pub in_part : Layers → ℕ → ℕ → Bool
in_part l x y =
    not (is_in l.full (x / 64) (y / 64)) && (is_in l.used (x / 64) (y / 64) && is_in l.places x y)

-- both have one size
abbrev pub AreAlike : Layers → Layers → Type 0
AreAlike l m = (l.places.width ≡ m.places.width) × (l.places.height ≡ m.places.height)

-- the cell is not in the set whole any more. It has the places that it had
pub record IsSpread (i j : ℕ) (old new : Layers) : Type 0 where
  pub sound : IsLayers new
  pub alike : AreAlike new old
  pub same : (x y : ℕ) → x < old.places.width → y < old.places.height →
      in_set new x y ≡ in_set old x y
  pub parted : is_in new.full i j ≡ false

-- of those cells, the set lost the places that another has in cells that it has not whole
pub record HasLost (cells : ℕ → ℕ → Bool) (other old new : Layers) : Type 0 where
  pub sound : IsLayers new
  pub alike : AreAlike new old
  pub each : (x y : ℕ) → x < old.places.width → y < old.places.height →
      in_set new x y ≡ (in_set old x y && not (cells (x / 64) (y / 64) && in_part other x y))

-- no cell from one number up to another, in reading order, is open
abbrev pub NoneOpen : Layers → ℕ → ℕ → Type 0
NoneOpen l from to =
    (i j : ℕ) → i < l.full.width → j < l.full.height → from ≤ j * l.full.width + i →
    j * l.full.width + i < to → is_open l i j ≡ false

-- it is the first open cell from one number on
pub record IsNextOpen (l : Layers) (from cell : ℕ) : Type 0 where
  pub after : from ≤ cell
  pub is_cell : cell < l.full.width * l.full.height
  pub none : NoneOpen l from cell

-- that cell is it, or there is none
abbrev pub HasNextOpen : Layers → ℕ → Option ℕ → Type 0
HasNextOpen l from found =
    MatchOption found (NoneOpen l from (l.full.width * l.full.height))
    (λ cell. IsNextOpen l from cell)
