-- The edges of a cell's marked places from those of its columns of words, and the least rectangle.
use Rattle.std.proofs.Common.{ℕ, List, Bool, true, false, Option, Some, None, ◌≡◌, ◌+◌, ◌-◌, ◌*◌, ◌/◌, ◌%◌, ◌<◌, ◌≤◌}
use Rattle.std.proofs.Common.{◌&&◌, refl, arith, nat_le, nat_lt, inl, inr}
use Rattle.std.proofs.lemmas.Bool.{both_ways, and_parts, and_cases, and_from}
use Rattle.std.proofs.lemmas.Bool.Decides.{nat_tests}
use Rattle.rfb_picture.specs.declared.rect.Rect.{Rect}
use Rattle.rfb_picture.specs.declared.edges.Edges.{Edges}
use Rattle.rfb_picture.specs.declared.edges.Gathered.{Gathered}
use Rattle.std.specs.Int.{w64, trailing_zeros, leading_zeros}
use Rattle.rfb_picture.specs.Rect.{contains}
use Rattle.rfb_picture.specs.Places.{has_bit}
use Rattle.rfb_picture.specs.layout.Plane.{has_place, has_masked}
use Rattle.rfb_picture.specs.Box.{IsClear, IsBox}
use Rattle.rfb_picture.specs.layout.Edges.{IsEdges, HasEdges, NoMarks, IsGathered}
use Rattle.rfb_picture.proofs.GridLemmas.{contains_true, contains_row}
use Rattle.rfb_picture.proofs.EdgesLemmas.{same_edges, edges_of_column}

-- ---- a column of words

-- its words' places in the rows of a zone
abbrev pub word_zone : Rect → ℕ → Rect
word_zone zone column = record { x = column * 64; y = zone.y; w = 64; h = zone.h }

-- a mark that a mask leaves there, as a place of the zone
pub word_marks : (words : List ℕ) (across column mask : ℕ) (zone : Rect) (x y : ℕ) →
    ((i : ℕ) → i < 64 →
    has_bit mask i
    ≡ (nat_le zone.x (column * 64 + i) && nat_lt (column * 64 + i) (zone.x + zone.w))) →
    contains (word_zone zone column) x y ≡ true →
    has_masked words across column mask y (x - column * 64)
    ≡ (has_place words across x y && contains zone x y)
word_marks words across column mask zone x y is c =
    let (x0, x1, y0, y1) = contains_true (word_zone zone column) x y c in
    let e : column * 64 + (x - column * 64) ≡ x = omega arith in
    let word : x / 64 ≡ column = omega arith in
    let bit : x % 64 ≡ x - column * 64 = omega arith in
    let masked = rw e at (is (x - column * 64) (omega arith)) in
    let inside : contains zone x y ≡ (nat_le zone.x x && nat_lt x (zone.x + zone.w)) =
    grind (arith, nat_tests) in
    rw (word, bit, masked, inside) refl

-- a zone of that column has its places there
pub word_holds : (zone : Rect) (x y : ℕ) →
    zone.x + zone.w ≤ zone.x / 64 * 64 + 64 →
    contains zone x y ≡ true →
    contains (word_zone zone (zone.x / 64)) x y ≡ true
word_holds zone x y one c =
    let (x0, x1, y0, y1) = contains_true zone x y c in
    contains_row (word_zone zone (zone.x / 64)) x y (omega arith) (omega arith) y0 y1

-- ---- a part of a rectangle

-- the edges of those marked places that lie in the part are the part's
pub edges_of_part : (p : ℕ → ℕ → Bool) (all part : Rect) (found : Option Edges) →
    ((x y : ℕ) → contains part x y ≡ true → contains all x y ≡ true) →
    HasEdges (λ x y. p x y && contains part x y) all found →
    HasEdges p part found
edges_of_part p all part None within was =
    λ x y c.
    elim (and_cases (p x y) (contains part x y) (was x y (within x y c))) [
      | inl e ↦ e
      | inr e ↦ absurd (both_ways (contains part x y) e c)
    ]
edges_of_part p all part (Some e) within was =
    let (y0, in0, m0) = was.at_left in
    let (y1, in1, m1) = was.at_right in
    let (x0, in2, m2) = was.at_top in
    let (x1, in3, m3) = was.at_bottom in
    let left = and_parts (p e.left y0) (contains part e.left y0) m0 in
    let right = and_parts (p e.right y1) (contains part e.right y1) m1 in
    let top = and_parts (p x0 e.top) (contains part x0 e.top) m2 in
    let bottom = and_parts (p x1 e.bottom) (contains part x1 e.bottom) m3 in
    record {
      holds = λ x y c m. was.holds x y (within x y c) (and_from (p x y) (contains part x y) m c);
      at_left = (y0, left.1, left.0);
      at_right = (y1, right.1, right.0);
      at_top = (x0, top.1, top.0);
      at_bottom = (x1, bottom.1, bottom.0);
    }

-- ---- a zone of one column of words

-- where a mask leaves no mark, the zone has none
pub word_none : (words : List ℕ) (across mask : ℕ) (zone : Rect) (x y : ℕ) →
    ((i : ℕ) → i < 64 →
    has_bit mask i
    ≡ (nat_le zone.x (zone.x / 64 * 64 + i)
    && nat_lt (zone.x / 64 * 64 + i) (zone.x + zone.w))) →
    zone.x + zone.w ≤ zone.x / 64 * 64 + 64 →
    NoMarks (has_masked words across (zone.x / 64) mask) zone.y (zone.y + zone.h) →
    contains zone x y ≡ true →
    has_place words across x y ≡ false
word_none words across mask zone x y is one none c =
    let there = word_holds zone x y one c in
    let (x0, x1, y0, y1) = contains_true (word_zone zone (zone.x / 64)) x y there in
    let empty = none y (x - zone.x / 64 * 64) y0 y1 (omega arith) in
    let both = rw (word_marks words across (zone.x / 64) mask zone x y is there) at empty in
    elim (and_cases (has_place words across x y) (contains zone x y) both) [
      | inl e ↦ e
      | inr e ↦ absurd (both_ways (contains zone x y) e c)
    ]

-- else what was gathered of its words has its edges
pub word_some : (words : List ℕ) (across mask : ℕ) (zone : Rect) (g : Gathered) →
    ((i : ℕ) → i < 64 →
    has_bit mask i
    ≡ (nat_le zone.x (zone.x / 64 * 64 + i)
    && nat_lt (zone.x / 64 * 64 + i) (zone.x + zone.w))) →
    zone.x + zone.w ≤ zone.x / 64 * 64 + 64 →
    IsGathered (has_masked words across (zone.x / 64) mask) zone.y (zone.y + zone.h) g →
    IsEdges (has_place words across) zone
    (record {
      left = zone.x / 64 * 64 + trailing_zeros w64 g.bits;
      right = zone.x / 64 * 64 + 63 - leading_zeros w64 g.bits;
      top = g.top;
      bottom = g.bottom;
    })
word_some words across mask zone g is one found =
    let high : zone.y + zone.h - zone.y ≡ zone.h = omega arith in
    let edges : Edges =
    record {
      left = zone.x / 64 * 64 + trailing_zeros w64 g.bits;
      right = zone.x / 64 * 64 + 63 - leading_zeros w64 g.bits;
      top = g.top;
      bottom = g.bottom;
    } in
    let column =
    rw high at (edges_of_column (has_masked words across (zone.x / 64) mask) (zone.x / 64 * 64)
    zone.y (zone.y + zone.h) g found) in
    edges_of_part (has_place words across) (word_zone zone (zone.x / 64)) zone (Some edges)
    (λ x y c. word_holds zone x y one c)
    (same_edges (λ x y. has_masked words across (zone.x / 64) mask y (x - zone.x / 64 * 64))
    (λ x y. has_place words across x y && contains zone x y) (word_zone zone (zone.x / 64))
    (Some edges)
    (λ x y c. word_marks words across (zone.x / 64) mask zone x y is c)
    column)

-- ---- the least rectangle

-- the order of the edges, and where they lie
pub edges_order : (p : ℕ → ℕ → Bool) (cell : Rect) (e : Edges) →
    IsEdges p cell e → (e.left ≤ e.right) × (e.right < cell.x + cell.w) × (e.top ≤ e.bottom)
    × (e.bottom < cell.y + cell.h)
edges_order p cell e is =
    let (y0, in0, m0) = is.at_left in
    let (y1, in1, m1) = is.at_right in
    let (x0, in2, m2) = is.at_top in
    let (x1, in3, m3) = is.at_bottom in
    let (a, b, c, d) = is.holds e.left y0 in0 m0 in
    let (f, g, h, i) = is.holds x0 e.top in2 m2 in
    (b, (contains_true cell e.right y1 in1).1, i, (contains_true cell x1 e.bottom in3).3)

-- a rectangle with the edges is the least
pub box_is : (p : ℕ → ℕ → Bool) (cell : Rect) (e : Edges) →
    IsEdges p cell e →
    IsBox p cell
    (record { x = e.left; y = e.top; w = e.right - e.left + 1; h = e.bottom - e.top + 1 })
box_is p cell e is =
    let box : Rect =
    record { x = e.left; y = e.top; w = e.right - e.left + 1; h = e.bottom - e.top + 1 } in
    let (wide, right_in, high, bottom_in) = edges_order p cell e is in
    let (y0, in0, m0) = is.at_left in
    let (y1, in1, m1) = is.at_right in
    let (x0, in2, m2) = is.at_top in
    let (x1, in3, m3) = is.at_bottom in
    let (left_in, a1, a2, a3) = contains_true cell e.left y0 in0 in
    let (b0, b1, top_in, b3) = contains_true cell x0 e.top in2 in
    let holds : (x y : ℕ) → contains cell x y ≡ true → p x y ≡ true → contains box x y ≡ true =
    λ x y c m.
    let (h0, h1, h2, h3) = is.holds x y c m in
    contains_row box x y h0 (omega arith) h2 (omega arith) in
    let last_column : e.left + (e.right - e.left + 1) - 1 ≡ e.right = omega arith in
    let last_row : e.top + (e.bottom - e.top + 1) - 1 ≡ e.bottom = omega arith in
    record {
      within = (left_in, omega arith, top_in, omega arith);
      holds = holds;
      tight = record {
        some = (omega arith, omega arith);
        left = (y0, holds e.left y0 in0 m0, m0);
        right = rw last_column (y1, holds e.right y1 in1 m1, m1);
        top = (x0, holds x0 e.top in2 m2, m2);
        bottom = rw last_row (x1, holds x1 e.bottom in3 m3, m3);
      };
    }

-- and where there is none, no place is marked
pub clear_is : (p : ℕ → ℕ → Bool) (cell : Rect) →
    ((x y : ℕ) → contains cell x y ≡ true → p x y ≡ false) →
    IsClear p cell.x (cell.x + cell.w) cell.y (cell.y + cell.h)
clear_is p cell none = λ x y a b c d. none x y (contains_row cell x y a b c d)
