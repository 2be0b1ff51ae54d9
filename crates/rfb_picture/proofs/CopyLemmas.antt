-- Laws of copies within one grid: what is read of it before it is written.
use Rattle.std.proofs.Common.{ℕ, ◌≡◌, ◌+◌, ◌-◌, ◌*◌, ◌<◌, ◌≤◌, refl, ◌∙◌, arith}
use Rattle.std.proofs.Common.{if◌then◌else◌, nat_le, nat_lt, ◌&&◌}
use Rattle.std.proofs.Common.{◌||◌, Bool, true, false, List}
use Rattle.std.proofs.lemmas.Bool.Decides.{nat_tests}
use Rattle.std.proofs.Math.Nat.{mul-le-mul_right}
use Rattle.rfb_picture.specs.declared.rect.Rect.{Rect}
use Rattle.rfb_picture.specs.Rect.{contains}
use Rattle.rfb_picture.specs.Grid.{Grid, IsGrid, Holds, at_or, copied}
use Rattle.rfb_picture.specs.layout.Lines.{AreLines, place_in}
use Rattle.std.proofs.lemmas.List.{get_or_default}
use Rattle.rfb_picture.proofs.GridLemmas.{place_below, contains_true, at-changed}
use Rattle.rfb_picture.proofs.LineLemmas.{index_in_line}

-- ---- which rows a copy has written

-- the row of the rectangle that comes after n others: downwards where the source lies no higher,
-- else upwards
abbrev pub row_after : Rect → ℕ → ℕ → ℕ
row_after r sy n = if nat_le r.y sy then n else r.h - 1 - n

-- the rows of the rectangle that are written after n steps
abbrev pub rows_done : Rect → ℕ → ℕ → Rect
rows_done r sy n = record r { y = if nat_le r.y sy then r.y else r.y + (r.h - n); h = n }

-- n places of one of h rows from y on, from column x on, end before the list does
pub row_fits : (y row h x n w len : ℕ) → row < h → x + n ≤ w → (y + h) * w ≤ len →
    (y + row) * w + x + n ≤ len
row_fits y row h x n w len l p q =
    let over : (y + row + 1) * w ≤ (y + h) * w = mul-le-mul_right w (omega arith) in
    grind arith

-- with that row written too, one row more is
pub rows_done_more : (r : Rect) (sy n x y : ℕ) →
    n < r.h →
    contains (rows_done r sy (n + 1)) x y
    ≡ (contains (rows_done r sy n) x y
    || contains (record { x = r.x; y = r.y + row_after r sy n; w = r.w; h = 1 }) x y)
rows_done_more r sy n x y l = grind (arith, nat_tests)

-- it is one of the rectangle's
row_below : (r : Rect) (sy n row : ℕ) → n < r.h → row ≡ row_after r sy n → row < r.h
row_below r sy n row l is = grind (arith, nat_tests)

-- and the row that it reads is not written yet
pub source_row_left : (r : Rect) (sy n x : ℕ) → n < r.h →
    contains (rows_done r sy n) x (sy + row_after r sy n) ≡ false
source_row_left r sy n x l = grind (arith, nat_tests)

-- at the end all are written
pub rows_all_done : (r : Rect) (sy n x y : ℕ) → n ≡ r.h →
    contains (rows_done r sy n) x y ≡ contains r x y
rows_all_done r sy n x y e = grind (arith, nat_tests)

-- in the rectangle of a row, a place is as far from the start of its source as the column is from
-- its first
place_of_source : (lines : List ℕ) (x0 y0 sx sy n w x y : ℕ) →
    contains (record { x = x0; y = y0; w = n; h = 1 }) x y ≡ true →
    place_in lines w sx sy + (place_in lines w x y - place_in lines w x0 y0) ≡ place_in lines w (sx + (x - x0)) sy
place_of_source lines x0 y0 sx sy n w x y e =
    let h = contains_true (record { x = x0; y = y0; w = n; h = 1 }) x y e in
    let same : y ≡ y0 = omega arith in
    rw same (omega arith)

-- its source is in the row
source_column : (x0 y0 sx n w x y : ℕ) →
    sx + n ≤ w → contains (record { x = x0; y = y0; w = n; h = 1 }) x y ≡ true → sx + (x - x0) < w
source_column x0 y0 sx n w x y p e =
    let h = contains_true (record { x = x0; y = y0; w = n; h = 1 }) x y e in
    omega arith

-- and its row is as far from the first of the source as it is from the rectangle's
source_row : (x0 y0 row sy n x y : ℕ) →
    contains (record { x = x0; y = y0 + row; w = n; h = 1 }) x y ≡ true → sy + (y - y0) ≡ sy + row
source_row x0 y0 row sy n x y e =
    let h = contains_true (record { x = x0; y = y0 + row; w = n; h = 1 }) x y e in
    omega arith

module _ {X : Type 0} where
  either : (a b : Bool) (now u v : X) → now ≡ (if b then u else (if a then u else v)) →
      now ≡ (if a || b then u else v)
  either true true now u v e = e
  either true false now u v e = e
  either false b now u v e = e

  at_value : (b : Bool) (now u v w : X) → now ≡ (if b then u else w) → (b ≡ true → u ≡ v) →
      now ≡ (if b then v else w)
  at_value true now u v w e same = e ∙ same refl
  at_value false now u v w e same = e

  -- with the places of one row more, a copy is one row further
  pub line_copied : (w h : ℕ) (lines : List ℕ) (r : Rect) (sx sy n row x y : ℕ) (now : X)
      (before first : ℕ → X) →
      AreLines h lines → r.x + r.w ≤ w → sx + r.w ≤ w → r.y + r.h ≤ h → sy + r.h ≤ h →
      n < r.h → row ≡ row_after r sy n → x < w → y < h →
      ((x y : ℕ) → x < w → y < h →
      before (place_in lines w x y)
      ≡ (if contains (rows_done r sy n) x y
      then first (place_in lines w (sx + (x - r.x)) (sy + (y - r.y))) else first (place_in lines w x y))) →
      now ≡ (if nat_le (place_in lines w r.x (r.y + row)) (place_in lines w x y)
      && nat_lt (place_in lines w x y) (place_in lines w r.x (r.y + row) + r.w)
      then before (place_in lines w sx (sy + row) + (place_in lines w x y - place_in lines w r.x (r.y + row)))
      else before (place_in lines w x y)) →
      now ≡ (if contains (rows_done r sy (n + 1)) x y
      then first (place_in lines w (sx + (x - r.x)) (sy + (y - r.y))) else first (place_in lines w x y))
  line_copied w h lines r sx sy n row x y now before first are p q hd hs l this m k was is =
      let below : row < r.h = row_below r sy n row l this in
      let test = index_in_line w h lines r.x (r.y + row) r.w x y are (omega arith) k p m in
      let done = rows_done_more r sy n x y l in
      let more = rw (← this) at done in
      rw more
      (either (contains (rows_done r sy n) x y)
      (contains (record { x = r.x; y = r.y + row; w = r.w; h = 1 }) x y) now _ _
      (rw (← was x y m k)
      (at_value (contains (record { x = r.x; y = r.y + row; w = r.w; h = 1 }) x y) now _ _ _
      (rw test at is)
      (λ e.
      let left = source_row_left r sy n (sx + (x - r.x)) l in
      let free = rw (← this) at left in
      let read = was (sx + (x - r.x)) (sy + row) (source_column r.x (r.y + row) sx r.w w x y q e) (omega arith) in
      rw (
        place_of_source lines r.x (r.y + row) sx (sy + row) r.w w x y e,
        source_row r.x r.y row sy r.w x y e,
      )
      (rw free at read)))))

  -- what is read lies in the grid, so it does not matter what is read outside it
  pub source_read : (r : Rect) (sx sy : ℕ) (g : Grid X) (x y : ℕ) (now here d other : X) →
      IsGrid g →
      Holds g (record r { x = sx; y = sy }) →
      now ≡ (if contains r x y then at_or g (sx + (x - r.x)) (sy + (y - r.y)) d else here) →
      now ≡ (if contains r x y then at_or g (sx + (x - r.x)) (sy + (y - r.y)) other else here)
  source_read r sx sy g x y now here d other whole held is =
      at_value (contains r x y) now _ _ _ is
      (λ e.
      let h = contains_true r x y e in
      let below = place_below g.width g.height (sx + (x - r.x)) (sy + (y - r.y))
      (omega (arith, held.0)) (omega (arith, held.1)) in
      get_or_default g.places ((sy + (y - r.y)) * g.width + (sx + (x - r.x))) d other (omega arith))

  -- the value at a place after a copy: in the rectangle, the one at its source
  pub at-copied : (r : Rect) (sx sy : ℕ) (g : Grid X) (x y : ℕ) (d : X) →
      IsGrid g →
      Holds g (record r { x = sx; y = sy }) →
      x < g.width →
      y < g.height →
      at_or (copied r sx sy g) x y d
      ≡ (if contains r x y then at_or g (sx + (x - r.x)) (sy + (y - r.y)) d else at_or g x y d)
  at-copied r sx sy g x y d whole held p q =
      source_read r sx sy g x y (at_or (copied r sx sy g) x y d) (at_or g x y d) (at_or g x y d) d
      whole held (at-changed _ g x y d whole p q)
