-- All places of a zone, by cells, and the bits of a row.
use Rattle.std.proofs.Common.{ℕ, Bool, true, false, ◌≡◌, ◌+◌, ◌-◌, ◌*◌, ◌/◌, ◌%◌}
use Rattle.std.proofs.Common.{◌<◌, ◌≤◌, ◌&&◌, ◌||◌, min}
use Rattle.std.proofs.Common.{refl, sym, ◌∙◌, arith, nat_le, nat_lt, inl, inr}
use Rattle.std.proofs.lemmas.Bool.{or_cases}
use Rattle.std.proofs.lemmas.Bool.Decides.{nat_tests}
use Rattle.std.proofs.lemmas.Nat.{div-add-mod'}
use Rattle.rfb_picture.specs.declared.rect.Rect.{Rect}
use Rattle.rfb_picture.specs.declared.place_set.layers.Layers.{Layers}
use Rattle.rfb_picture.specs.Rect.{contains}
use Rattle.rfb_picture.specs.Grid.{Holds}
use Rattle.rfb_picture.specs.Box.{is_in}
use Rattle.rfb_picture.specs.Places.{has_bit, AllMarked, HasRowBits}
use Rattle.rfb_picture.specs.layout.Cells.{in_column}
use Rattle.rfb_picture.specs.layout.PlaceSet.{in_set, layered}
use Rattle.rfb_picture.proofs.GridLemmas.{contains_true, contains_row}
use Rattle.rfb_picture.proofs.CellLemmas.{columns_to, columns_more, same_cell}
use Rattle.rfb_picture.proofs.PlaceSetLemmas.{at-layered}

-- ---- parts of a zone

-- a place of a column of cells is one of the zone
pub column_inside : (z : Rect) (column x y : ℕ) →
    z.x / 64 ≤ column → contains (in_column z column) x y ≡ true → contains z x y ≡ true
column_inside z column x y p c =
    let (x0, x1, y0, y1) = contains_true (in_column z column) x y c in
    contains_row z x y (omega arith) (omega arith) y0 y1

-- all places so far and those of one column more
pub all_columns_more : (p : ℕ → ℕ → Bool) (z : Rect) (column : ℕ) →
    z.x / 64 ≤ column →
    AllMarked p (columns_to z column) →
    AllMarked p (in_column z column) →
    AllMarked p (columns_to z (column + 1))
all_columns_more p z column order first second =
    λ x y c.
    elim (or_cases (contains (columns_to z column) x y) (contains (in_column z column) x y)
    (sym (columns_more z column x y order) ∙ c)) [
      | inl e ↦ first x y e
      | inr e ↦ second x y e
    ]

-- all columns have all places of the zone
pub all_columns_done : (p : ℕ → ℕ → Bool) (z : Rect) (column : ℕ) →
    z.x + z.w ≤ column * 64 → AllMarked p (columns_to z column) → AllMarked p z
all_columns_done p z column done all =
    let e : min (z.x + z.w) (column * 64) - z.x ≡ z.w = omega arith in
    rw e at all

-- ---- a set's places

-- the places by the marks are the set's
pub all-layered : (l : Layers) (z : Rect) → Holds l.places z → AllMarked (in_set l) z →
    AllMarked (is_in (layered l)) z
all-layered l z room all =
    λ x y c.
    let (x0, x1, y0, y1) = contains_true z x y c in
    at-layered l x y false (omega (arith, room.0)) (omega (arith, room.1)) ∙ all x y c

pub all-in_set : (l : Layers) (z : Rect) → Holds l.places z → AllMarked (is_in (layered l)) z →
    AllMarked (in_set l) z
all-in_set l z room all =
    λ x y c.
    let (x0, x1, y0, y1) = contains_true z x y c in
    sym (at-layered l x y false (omega (arith, room.0)) (omega (arith, room.1))) ∙ all x y c

-- in a cell that is used and not full, they are those that are marked
pub all_marked : (l : Layers) (z : Rect) →
    z.x + z.w ≤ z.x / 64 * 64 + 64 →
    z.y + z.h ≤ z.y / 64 * 64 + 64 →
    is_in l.full (z.x / 64) (z.y / 64) ≡ false →
    is_in l.used (z.x / 64) (z.y / 64) ≡ true →
    (x y : ℕ) → contains z x y ≡ true → in_set l x y ≡ is_in l.places x y
all_marked l z wide high full used x y c =
    let cell = same_cell z x y wide high c in
    rw (cell.0, cell.1, full, used) refl

-- ---- a row's bits

-- the columns of a cell's row that are in the picture
pub row_of_cell : (w x i mask : ℕ) →
    x % 64 ≡ 0 →
    has_bit mask i ≡ (nat_le x (x / 64 * 64 + i) && nat_lt (x / 64 * 64 + i) w) →
    has_bit mask i ≡ nat_lt (x + i) w
row_of_cell w x i mask start is =
    let place : x / 64 * 64 + i ≡ x + i = omega (arith, div-add-mod' x 64) in
    let masked = rw place at is in
    masked ∙ (grind (arith, nat_tests))

and_same : (a b c : Bool) → (a ≡ true → b ≡ c) → (a && b) ≡ (a && c)
and_same true b c same = same refl
and_same false b c same = refl

-- a place of a cell's row tells by its cell
bits-layered : (l : Layers) (x y i : ℕ) (b : Bool) →
    x % 64 ≡ 0 →
    i < 64 →
    y < l.places.height →
    (x + i < l.places.width → in_set l (x + i) y ≡ b) →
    (nat_lt (x + i) l.places.width && is_in (layered l) (x + i) y)
    ≡ (nat_lt (x + i) l.places.width && b)
bits-layered l x y i b start low q same =
    and_same (nat_lt (x + i) l.places.width) _ b
    (λ e.
    let p : x + i < l.places.width = grind (arith, nat_tests) in
    at-layered l (x + i) y false p q ∙ same p)

-- so the bits of a cell's row tell by the cell
pub row_bits-layered : (l : Layers) (x y bits : ℕ) (full used : Bool) → x % 64 ≡ 0 → y < l.places.height →
    is_in l.full (x / 64) (y / 64) ≡ full → is_in l.used (x / 64) (y / 64) ≡ used →
    ((i : ℕ) → i < 64 →
    has_bit bits i ≡ (nat_lt (x + i) l.places.width && (full || (used && is_in l.places (x + i) y)))) →
    HasRowBits (layered l) x y bits
row_bits-layered l x y bits full used start q f u each = λ i low.
    let cell : (x + i) / 64 ≡ x / 64 = omega (arith, start, low) in
    each i low ∙ sym (bits-layered l x y i _ start low q (λ p. rw (cell, f, u) refl))
