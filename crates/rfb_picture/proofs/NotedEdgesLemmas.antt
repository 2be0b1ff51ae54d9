-- The edges of a zone's places, from the rows of its cell that are noted.
use Rattle.std.proofs.Common.{ℕ, Bool, true, Option, ◌≡◌, ◌+◌, ◌-◌}
use Rattle.std.proofs.Common.{◌*◌, ◌/◌, ◌^◌, ◌<◌, ◌≤◌, ◌&&◌}
use Rattle.std.proofs.Common.{nat_le, nat_lt, refl, sym, ◌∙◌, arith, false}
use Rattle.std.specs.Int.{w64, trailing_zeros, leading_zeros}
use Rattle.std.proofs.lemmas.Bool.{and_parts, both_ways, false_from_ne_true}
use Rattle.std.proofs.lemmas.Bool.Decides.{nat_tests}
use Rattle.std.proofs.lemmas.Nat.Bits.{bit_at-zero}
use Rattle.rfb_picture.specs.declared.rect.Rect.{Rect}
use Rattle.rfb_picture.specs.declared.edges.Edges.{Edges}
use Rattle.rfb_picture.specs.declared.place_set.layers.Layers.{Layers}
use Rattle.rfb_picture.specs.Rect.{contains}
use Rattle.rfb_picture.specs.Grid.{Holds}
use Rattle.rfb_picture.specs.Box.{is_in}
use Rattle.rfb_picture.specs.Places.{has_bit, HasBitsBetween}
use Rattle.rfb_picture.specs.layout.Edges.{HasEdges}
use Rattle.rfb_picture.specs.layout.PlaceSet.{IsLayers}
use Rattle.rfb_picture.proofs.GridLemmas.{contains_true, contains_row}
use Rattle.rfb_picture.proofs.GatherLemmas.{first_bit, last_bit}
use Rattle.rfb_picture.proofs.EdgesLemmas.{edges_within}
use Rattle.rfb_picture.proofs.CellLemmas.{same_cell}

-- a marked place of a zone of one cell is in a row that is noted
noted_row : (l : Layers) (z : Rect) (rows x y : ℕ) →
    IsLayers l →
    Holds l.places z →
    z.x + z.w ≤ z.x / 64 * 64 + 64 →
    z.y + z.h ≤ z.y / 64 * 64 + 64 →
    HasBitsBetween (is_in l.noted) (z.x / 64) z.y (z.y + z.h) rows →
    contains z x y ≡ true →
    is_in l.places x y ≡ true →
    has_bit rows (y - z.y / 64 * 64) ≡ true
noted_row l z rows x y sound room p q notes c marked =
    let (x0, x1, y0, y1) = contains_true z x y c in
    let cell = same_cell z x y p q c in
    let left : x < l.places.width = omega (arith, room.0) in
    let low : y < l.places.height = omega (arith, room.1) in
    let noted : is_in l.noted y (z.x / 64) ≡ true =
    rw cell.0 at (sound.marks_noted x y left low marked) in
    let place : z.y / 64 * 64 + (y - z.y / 64 * 64) ≡ y = omega arith in
    let note = rw place at (notes (y - z.y / 64 * 64) (omega arith)) in
    let test : (nat_le z.y y && nat_lt y (z.y + z.h)) ≡ true = grind (arith, nat_tests) in
    note ∙ (rw (test, noted) refl)

-- where no row is noted, no place is marked
pub none_noted : (l : Layers) (z : Rect) (rows : ℕ) →
    IsLayers l →
    Holds l.places z →
    z.x + z.w ≤ z.x / 64 * 64 + 64 →
    z.y + z.h ≤ z.y / 64 * 64 + 64 →
    HasBitsBetween (is_in l.noted) (z.x / 64) z.y (z.y + z.h) rows →
    rows ≡ 0 →
    (x y : ℕ) → contains z x y ≡ true → is_in l.places x y ≡ false
none_noted l z rows sound room p q notes none x y c =
    false_from_ne_true (is_in l.places x y)
    (λ m.
    let bit = noted_row l z rows x y sound room p q notes c m in
    let no_bit : has_bit rows (y - z.y / 64 * 64) ≡ false = rw (none, bit_at-zero) refl in
    both_ways _ no_bit bit)

-- the first and the last row that is noted are the zone's
pub noted_bounds : (p : ℕ → ℕ → Bool) (z : Rect) (column rows : ℕ) →
    HasBitsBetween p column z.y (z.y + z.h) rows →
    0 < rows →
    rows < 2 ^ 64 →
    (leading_zeros w64 rows ≤ 63) × (z.y ≤ z.y / 64 * 64 + trailing_zeros w64 rows)
    × (trailing_zeros w64 rows ≤ 63 - leading_zeros w64 rows)
    × (z.y / 64 * 64 + (63 - leading_zeros w64 rows) < z.y + z.h)
noted_bounds p z column rows notes some small =
    let first = first_bit rows some small in
    let last = last_bit rows some small in
    let i = trailing_zeros w64 rows in
    let k = 63 - leading_zeros w64 rows in
    let top = z.y / 64 * 64 in
    let at_first = and_parts (nat_le z.y (top + i) && nat_lt (top + i) (z.y + z.h)) _
    (sym (notes i first.0) ∙ first.1) in
    let at_last = and_parts (nat_le z.y (top + k) && nat_lt (top + k) (z.y + z.h)) _
    (sym (notes k (omega arith)) ∙ last.1) in
    let above = and_parts (nat_le z.y (top + i)) _ at_first.0 in
    let below = and_parts (nat_le z.y (top + k)) (nat_lt (top + k) (z.y + z.h)) at_last.0 in
    let low : z.y ≤ top + i = grind (arith, nat_tests) in
    let high : top + k < z.y + z.h = grind (arith, nat_tests) in
    (last.0, low, first.2 k last.1, high)

-- the edges of the places in the rows from the first up to the last that is noted
pub edges-noted : (l : Layers) (z : Rect) (rows : ℕ) (found : Option Edges) →
    IsLayers l →
    Holds l.places z →
    z.x + z.w ≤ z.x / 64 * 64 + 64 →
    z.y + z.h ≤ z.y / 64 * 64 + 64 →
    HasBitsBetween (is_in l.noted) (z.x / 64) z.y (z.y + z.h) rows →
    0 < rows →
    rows < 2 ^ 64 →
    HasEdges (is_in l.places)
    (record {
      x = z.x;
      y = z.y / 64 * 64 + trailing_zeros w64 rows;
      w = z.w;
      h = z.y / 64 * 64 + 63 - leading_zeros w64 rows - (z.y / 64 * 64 + trailing_zeros w64 rows) + 1;
    }) found →
    HasEdges (is_in l.places) z found
edges-noted l z rows found sound room p q notes some small was =
    let top = z.y / 64 * 64 in
    let part : Rect = record {
      x = z.x;
      y = top + trailing_zeros w64 rows;
      w = z.w;
      h = top + 63 - leading_zeros w64 rows - (top + trailing_zeros w64 rows) + 1;
    } in
    let (fits, above, order, below) = noted_bounds (is_in l.noted) z (z.x / 64) rows notes some small in
    let first = first_bit rows some small in
    let last = last_bit rows some small in
    edges_within (is_in l.places) part z found
    (λ x y c.
    let (x0, x1, y0, y1) = contains_true part x y c in
    contains_row z x y x0 x1 (omega arith) (omega arith))
    (λ x y c m.
    let (x0, x1, y0, y1) = contains_true z x y c in
    let bit = noted_row l z rows x y sound room p q notes c m in
    let low = first.2 (y - top) bit in
    let high = last.2 (y - top) bit in
    contains_row part x y x0 x1 (omega arith) (omega arith))
    was
