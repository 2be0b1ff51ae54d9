-- Rectangles by cells: their parts, and the edges of a set's places in them.
use Rattle.std.proofs.Common.{ℕ, Bool, true, false, Option, ◌≡◌, ◌+◌, ◌-◌, ◌*◌, ◌/◌, ◌<◌, ◌≤◌, ◌||◌, min, sym, arith}
use Rattle.std.proofs.Common.{inl, inr}
use Rattle.std.proofs.lemmas.Bool.{cases_lt}
use Rattle.std.proofs.lemmas.Bool.Decides.{nat_tests}
use Rattle.rfb_picture.specs.declared.rect.Rect.{Rect}
use Rattle.rfb_picture.specs.declared.edges.Edges.{Edges}
use Rattle.rfb_picture.specs.declared.place_set.layers.Layers.{Layers}
use Rattle.rfb_picture.specs.Rect.{contains}
use Rattle.rfb_picture.specs.Grid.{Holds}
use Rattle.rfb_picture.specs.Box.{is_in}
use Rattle.rfb_picture.specs.layout.Edges.{IsEdges, HasEdges}
use Rattle.rfb_picture.specs.layout.Cells.{in_column}
use Rattle.rfb_picture.specs.layout.PlaceSet.{in_set, layered}
use Rattle.rfb_picture.proofs.GridLemmas.{contains_true, contains_row}
use Rattle.rfb_picture.proofs.PlaceSetLemmas.{at-layered}
use Rattle.rfb_picture.proofs.EdgesLemmas.{same_edges}

-- ---- a rectangle and a part inside it

-- the inner part, and what lies about it, have the rectangle's places
pub parts_all : (r i : Rect) (x y : ℕ) →
    r.x ≤ i.x →
    i.x + i.w ≤ r.x + r.w →
    r.y ≤ i.y →
    i.y + i.h ≤ r.y + r.h →
    contains r x y
    ≡ (contains i x y || contains (record { x = r.x; y = r.y; w = r.w; h = i.y - r.y }) x y
    || contains (record { x = r.x; y = i.y + i.h; w = r.w; h = r.y + r.h - (i.y + i.h) }) x
    y || contains (record { x = r.x; y = i.y; w = i.x - r.x; h = i.h }) x y
    || contains (record {
      x = i.x + i.w;
      y = i.y;
      w = r.x + r.w - (i.x + i.w);
      h = i.h;
    }) x y)
parts_all r i x y a b c d =
    elim (cases_lt y i.y) [
      | inl above ↦ grind (arith, nat_tests)
      | inr l ↦ elim (cases_lt y (i.y + i.h)) [
        | inl inside ↦ elim (cases_lt x i.x) [
          | inl left ↦ grind (arith, nat_tests)
          | inr m ↦ elim (cases_lt x (i.x + i.w)) [
            | inl middle ↦ grind (arith, nat_tests)
            | inr right ↦ grind (arith, nat_tests)
          ]
        ]
        | inr below ↦ grind (arith, nat_tests)
      ]
    ]

-- ---- a zone by rows and columns of cells

-- its rows of cells above one
abbrev pub rows_to : Rect → ℕ → Rect
rows_to z row = record { x = z.x; y = z.y; w = z.w; h = min (z.y + z.h) (row * 64) - z.y }

-- its columns of cells left of one
abbrev pub columns_to : Rect → ℕ → Rect
columns_to z column = record { x = z.x; y = z.y; w = min (z.x + z.w) (column * 64) - z.x; h = z.h }

-- with one column more
pub columns_more : (z : Rect) (column x y : ℕ) →
    z.x / 64 ≤ column →
    contains (columns_to z (column + 1)) x y
    ≡ (contains (columns_to z column) x y || contains (in_column z column) x y)
columns_more z column x y p = grind (arith, nat_tests)

-- ---- the edges of a set's places

-- where a zone is marked whole, they are the zone's
pub full_edges : (p : ℕ → ℕ → Bool) (z : Rect) →
    0 < z.w →
    0 < z.h →
    ((x y : ℕ) → contains z x y ≡ true → p x y ≡ true) →
    IsEdges p z (record { left = z.x; right = z.x + z.w - 1; top = z.y; bottom = z.y + z.h - 1 })
full_edges p z wide high all =
    let left : contains z z.x z.y ≡ true =
    contains_row z z.x z.y (omega arith) (omega arith) (omega arith) (omega arith) in
    let right : contains z (z.x + z.w - 1) z.y ≡ true =
    contains_row z (z.x + z.w - 1) z.y (omega arith) (omega arith) (omega arith)
    (omega arith) in
    let bottom : contains z z.x (z.y + z.h - 1) ≡ true =
    contains_row z z.x (z.y + z.h - 1) (omega arith) (omega arith) (omega arith)
    (omega arith) in
    record {
      holds = λ x y c m. let (x0, x1, y0, y1) =
          contains_true z x y c in (omega arith, omega arith, omega arith, omega arith);
      at_left = (z.y, left, all z.x z.y left);
      at_right = (z.y, right, all (z.x + z.w - 1) z.y right);
      at_top = (z.x, left, all z.x z.y left);
      at_bottom = (z.x, bottom, all z.x (z.y + z.h - 1) bottom);
    }

-- the places of a zone of one cell are of that cell
pub same_cell : (z : Rect) (x y : ℕ) →
    z.x + z.w ≤ z.x / 64 * 64 + 64 →
    z.y + z.h ≤ z.y / 64 * 64 + 64 →
    contains z x y ≡ true →
    (x / 64 ≡ z.x / 64) × (y / 64 ≡ z.y / 64)
same_cell z x y p q c = let (x0, x1, y0, y1) = contains_true z x y c in (omega arith, omega arith)

-- the edges by the marks are those of the set's places
pub edges-layered : (l : Layers) (zone : Rect) (found : Option Edges) →
    Holds (layered l) zone → HasEdges (in_set l) zone found →
    HasEdges (is_in (layered l)) zone found
edges-layered l zone found room has =
    same_edges (in_set l) (is_in (layered l)) zone found
    (λ x y inside.
    let (x0, x1, y0, y1) = contains_true zone x y inside in
    sym (at-layered l x y false (omega (arith, room.0)) (omega (arith, room.1))))
    has

-- all rows of cells have all places of the zone
pub rows_done : (p : ℕ → ℕ → Bool) (z : Rect) (row : ℕ) (found : Option Edges) →
    z.y + z.h ≤ row * 64 → HasEdges p (rows_to z row) found → HasEdges p z found
rows_done p z row found done has =
    let e : min (z.y + z.h) (row * 64) - z.y ≡ z.h = omega arith in
    rw e at has

-- and so have all columns
pub columns_done : (p : ℕ → ℕ → Bool) (z : Rect) (column : ℕ) (found : Option Edges) →
    z.x + z.w ≤ column * 64 → HasEdges p (columns_to z column) found → HasEdges p z found
columns_done p z column found done has =
    let e : min (z.x + z.w) (column * 64) - z.x ≡ z.w = omega arith in
    rw e at has
