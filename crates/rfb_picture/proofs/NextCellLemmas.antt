-- The next open cell of a set, row by row, and the places of a cell by its number.
use Rattle.std.proofs.Common.{List, length, refl, ℕ, Bool, true, false, ◌≡◌, ◌⊎◌, ◌+◌, ◌*◌, ◌/◌, ◌%◌, ◌<◌, ◌≤◌, ◌&&◌}
use Rattle.std.proofs.Common.{◌||◌, Option, Some, None, ◌∙◌, arith, inl, inr}
use Rattle.std.proofs.lemmas.Bool.{cases_lt, cases_eq}
use Rattle.std.proofs.lemmas.Nat.{mul-add-lt, same_from_place, div-add-mod', mod_below}
use Rattle.std.proofs.Math.Nat.{mul_comm, mul-le-mul_right, div-mul-le_self, le_of_mul-le-mul_right}
use Rattle.rfb_picture.specs.declared.edges.Edges.{Edges}
use Rattle.rfb_picture.specs.declared.place_set.layers.Layers.{Layers}
use Rattle.rfb_picture.specs.Rect.{contains}
use Rattle.rfb_picture.specs.Box.{is_in}
use Rattle.rfb_picture.specs.layout.Edges.{IsEdges}
use Rattle.rfb_picture.specs.Places.{NoneInRow}
use Rattle.rfb_picture.specs.layout.Marks.{IsNext, AreRowsClear}
use Rattle.rfb_picture.specs.CellOrder.{cells_in, NoneInCells, HasPlaceIn, HasNextCell, HasCandidate}
use Rattle.rfb_picture.specs.layout.Cells.{zone_of}
use Rattle.rfb_picture.specs.layout.PlaceSet.{in_set, is_open, layered, IsLayers, NoneOpen, IsNextOpen, HasNextOpen}
use Rattle.rfb_picture.specs.layout.Plane.{AreUnused, IsPlane, plane}
use Rattle.rfb_picture.proofs.GridLemmas.{contains_true, contains_row}
use Rattle.rfb_picture.proofs.PlaneLemmas.{at-plane, column_below, same_across}
use Rattle.rfb_picture.proofs.TakenWordLemmas.{none_in_word}
use Rattle.rfb_picture.proofs.PlaceSetLemmas.{at-layered, cell_below}

-- ---- open cells, row by row

-- a cell of a row above has a lower number than the row's first
above : (i j w row : ℕ) → i < w → j < row → j * w + i < row * w
above i j w row p q = let below = mul-add-lt j w i row q p in omega (arith, mul_comm w row)

-- a row's cells from one column up to another that are no further are not open
pub row_none : (l : Layers) (from row start to : ℕ) →
    (start ≡ 0) ⊎ (row * l.full.width + start ≡ from) →
    to ≤ l.full.width →
    NoneInRow (λ i j. is_in l.full i j || is_in l.used i j) row start to →
    NoneOpen l from (row * l.full.width) →
    NoneOpen l from (row * l.full.width + to)
row_none l from row start to begins room none before =
    λ i j p q low high.
    elim (cases_lt j row) [
      | inl less ↦ before i j p q low (above i j l.full.width row p less)
      | inr more ↦ elim (cases_eq j row) [
        | inl e ↦ elim (cases_lt i start) [
          | inl left ↦ elim begins [
            | inl z ↦ absurd (omega arith)
            | inr at ↦ let low' = rw e at low in absurd (omega arith)
          ]
          | inr right ↦ let high' = rw e at high in rw e (none i right (omega arith))
        ]
        | inr apart ↦
            let next : (row + 1) * l.full.width ≤ j * l.full.width =
            mul-le-mul_right l.full.width (omega arith) in
            absurd (omega (arith, next))
      ]
    ]

-- nor are those of rows after it that are clear
pub rows_none : (l : Layers) (from row next : ℕ) →
    NoneOpen l from (row * l.full.width + l.full.width) →
    AreRowsClear (λ i j. is_in l.full i j || is_in l.used i j) l.full.width (row + 1) next →
    NoneOpen l from (next * l.full.width)
rows_none l from row next before clear =
    λ i j p q low high.
    elim (cases_lt j (row + 1)) [
      | inl less ↦ before i j p q low
          (let below = above i j l.full.width (row + 1) p less in omega (arith, below))
      | inr more ↦ elim (cases_lt j next) [
        | inl here ↦ clear i j p more here
        | inr far ↦
            let past : next * l.full.width ≤ j * l.full.width =
            mul-le-mul_right l.full.width far in
            absurd (omega (arith, past, high))
      ]
    ]

-- the first open one of a row is the next
pub next_open_is : (l : Layers) (from row start column : ℕ) →
    (start ≡ 0) ⊎ (row * l.full.width + start ≡ from) →
    from ≤ row * l.full.width + start →
    row < l.full.height →
    IsNext (λ i j. is_in l.full i j || is_in l.used i j) row start l.full.width column →
    NoneOpen l from (row * l.full.width) →
    IsNextOpen l from (row * l.full.width + column)
next_open_is l from row start column begins reached low next before =
    let after = next.after in
    let below = next.before in
    record {
      after = omega arith;
      is_cell = let less = mul-add-lt row l.full.width column l.full.height low below in
          omega (arith, mul_comm l.full.width l.full.height);
      none = row_none l from row start column begins (omega arith) next.none before;
    }

-- ---- the places of a cell

pub in_zone : (width height column row x y : ℕ) →
    x < width → y < height → x / 64 ≡ column → y / 64 ≡ row →
    contains (zone_of width height column row) x y ≡ true
in_zone width height column row x y p q e f =
    contains_row (zone_of width height column row) x y (omega arith) (omega arith) (omega arith)
    (omega arith)

pub of_zone : (width height column row x y : ℕ) →
    contains (zone_of width height column row) x y ≡ true →
    (x < width) × (y < height) × (x / 64 ≡ column) × (y / 64 ≡ row)
of_zone width height column row x y inside =
    let (x0, x1, y0, y1) = contains_true (zone_of width height column row) x y inside in
    (omega arith, omega arith, omega arith, omega arith)

-- where its places have edges, one of them is marked
pub place_in_cell : (p : ℕ → ℕ → Bool) (width height across cell : ℕ) (e : Edges) →
    across ≡ cells_in width →
    IsEdges p (zone_of width height (cell % across) (cell / across)) e →
    HasPlaceIn p width height cell
place_in_cell p width height across cell e wide edges =
    let (y, inside, marked) = edges.at_left in
    let (left, low, column, row) =
    of_zone width height (cell % across) (cell / across) e.left y inside in
    record {
      x = e.left;
      y = y;
      on_picture = (left, low);
      in_cell = rw (← wide, column, row) (div-add-mod' cell across);
      marked = marked;
    }

-- and where none of them is marked, none is in the cell of that number
pub none_in_cell : (p : ℕ → ℕ → Bool) (width height across cell : ℕ) →
    across ≡ cells_in width →
    ((x y : ℕ) → contains (zone_of width height (cell % across) (cell / across)) x y ≡ true →
    p x y ≡ false) →
    NoneInCells p width height cell (cell + 1)
none_in_cell p width height across cell wide none =
    λ x y left low from to.
    let from' = rw (← wide) at from in
    let to' = rw (← wide) at to in
    let column : x / 64 < across = omega (arith, wide) in
    let place = same_from_place (y / 64) (x / 64) (cell / across) (cell % across) across column
    (mod_below cell across (omega arith)) (omega (arith, div-add-mod' cell across)) in
    none x y
    (in_zone width height (cell % across) (cell / across) x y left low place.1 place.0)

-- ---- the set itself

-- the next cell by the marks is that of the set's places
pub next-layered : (l : Layers) (from : ℕ) (found : Option ℕ) →
    HasNextCell (in_set l) l.places.width l.places.height from found →
    HasNextCell (is_in (layered l)) l.places.width l.places.height from found
next-layered l from None none = λ x y p q low high.
    at-layered l x y false p q ∙ none x y p q low high
next-layered l from (Some cell) next =
    let here = next.here in
    record {
      after = next.after;
      is_cell = next.is_cell;
      none = λ x y p q low high. at-layered l x y false p q ∙ next.none x y p q low high;
      here = record {
        x = here.x;
        y = here.y;
        on_picture = here.on_picture;
        in_cell = here.in_cell;
        marked = at-layered l here.x here.y false here.on_picture.0 here.on_picture.1
            ∙ here.marked;
      };
    }

shut : (f u p : Bool) → (f || u) ≡ false → (f || (u && p)) ≡ false
shut true u p e = absurd cc
shut false true p e = absurd cc
shut false false p e = refl

-- the next open cell may have a place of the set, and none before it has one
pub open-layered : (l : Layers) (from : ℕ) (found : Option ℕ) →
    IsLayers l →
    HasNextOpen l from found →
    HasCandidate (is_in (layered l)) l.places.width l.places.height from found
open-layered l from None sound none = λ x y p q low high.
    let i = cell_below x l.places.width l.full.width sound.full_wide p in
    let j = cell_below y l.places.height l.full.height sound.full_high q in
    at-layered l x y false p q
    ∙ shut (is_in l.full (x / 64) (y / 64)) (is_in l.used (x / 64) (y / 64)) (is_in l.places x y)
    (none (x / 64) (y / 64) i j (rw sound.full_wide low)
    (rw (sound.full_wide, sound.full_high) high))
open-layered l from (Some cell) sound next = record {
  after = next.after;
  is_cell = rw (← sound.full_wide, ← sound.full_high) next.is_cell;
  none = λ x y p q low high.
      let i = cell_below x l.places.width l.full.width sound.full_wide p in
      let j = cell_below y l.places.height l.full.height sound.full_high q in
      at-layered l x y false p q
      ∙ shut (is_in l.full (x / 64) (y / 64)) (is_in l.used (x / 64) (y / 64)) (is_in l.places x y)
      (next.none (x / 64) (y / 64) i j (rw sound.full_wide low) (rw sound.full_wide high));
}

-- a cell that is not open has no place
pub none_in_shut : (l : Layers) (cell : ℕ) →
    IsLayers l →
    is_open l (cell % l.full.width) (cell / l.full.width) ≡ false →
    NoneInCells (is_in (layered l)) l.places.width l.places.height cell (cell + 1)
none_in_shut l cell sound none =
    none_in_cell (is_in (layered l)) l.places.width l.places.height l.full.width cell
    sound.full_wide
    (λ x y inside.
    let (left, low, column, row) = of_zone l.places.width l.places.height (cell % l.full.width)
    (cell / l.full.width) x y inside in
    at-layered l x y false left low
    ∙ shut (is_in l.full (x / 64) (y / 64)) (is_in l.used (x / 64) (y / 64)) (is_in l.places x y)
    (rw (column, row) none))

-- ---- rows of words

-- rows whose words have no bit are clear, in both of two sets of one size
pub rows_clear : (w h across ow oh oacross : ℕ) (words other : List ℕ) (y n : ℕ) →
    IsPlane w h across words →
    IsPlane ow oh oacross other →
    w ≡ ow →
    h ≡ oh →
    n ≤ length words →
    AreUnused words other (y * across) n →
    AreRowsClear
    (λ i j. is_in (plane w h across words) i j || is_in (plane ow oh oacross other) i j) w y
    (n / across)
rows_clear w h across ow oh oacross words other y n sound sound_too wide tall within none =
    λ i j p q l.
    let column = column_below w h across words i sound p in
    let whole : n / across * across ≤ n = div-mul-le_self n across in
    let below : (j + 1) * across ≤ n / across * across = mul-le-mul_right across (omega arith) in
    let least : y * across ≤ j * across = mul-le-mul_right across q in
    let unused = none (j * across + i / 64) (omega (arith, least))
    (omega (arith, below, whole, column)) in
    let all : n ≤ h * across = rw sound.size at within in
    let fits : (j + 1) * across ≤ h * across = omega (arith, below, whole, all) in
    let row : j + 1 ≤ h = le_of_mul-le-mul_right fits (omega arith) in
    let high : j < h = omega arith in
    let first = none_in_word words across j (i / 64) i unused.0 (omega arith) (omega arith) in
    let same = same_across w h across words oh oacross other sound (rw wide sound_too) in
    let second = none_in_word other oacross j (i / 64) i (rw same at unused.1) (omega arith)
    (omega arith) in
    let here = at-plane w h across words i j false p high ∙ first in
    let there =
    at-plane ow oh oacross other i j false (rw (← wide) p) (rw (← tall) high) ∙ second in
    rw (here, there) refl
