-- Laws of what a picture shows of places whose rows are in lines.
use Rattle.std.proofs.Common.{ℕ, List, ◌≡◌, ◌+◌, ◌-◌, ◌*◌, ◌<◌, ◌≤◌, ◌∙◌, ap, sym}
use Rattle.std.proofs.Common.{arith, length, slice_index_or}
use Rattle.std.proofs.Common.{nat_le, nat_lt, ◌&&◌, if◌then◌else◌, take, drop, replicate}
use Rattle.std.proofs.lemmas.List.{get_or_default, get_or-take, get_or-drop, get_or-replicate, length-take-le}
use Rattle.std.proofs.lemmas.List.{length-drop}
use Rattle.std.proofs.lemmas.List.{same_lists}
use Rattle.rfb_picture.specs.declared.rect.Rect.{Rect}
use Rattle.rfb_picture.specs.Rect.{contains}
use Rattle.rfb_picture.specs.Grid.{Grid, grid, IsGrid, Holds, at_or, changed, copied, row_of, uniform}
use Rattle.rfb_picture.specs.layout.Lines.{AreInOrder, AreLines, IsKept, place_in, shown}
use Rattle.rfb_picture.proofs.GridLemmas.{at-changed, height-changed, length-changed, same_grid, whole-changed}
use Rattle.rfb_picture.proofs.GridLemmas.{at_value, contains_true, length-row_of, slice_index_or-row_of}
use Rattle.rfb_picture.proofs.GridLemmas.{width-changed}
use Rattle.rfb_picture.proofs.GridLemmas.{at-uniform, height-uniform, whole-uniform, width-uniform}
use Rattle.rfb_picture.proofs.LineLemmas.{column_in_line, index_in_line, line_fits}

module _ {X : Type 0} (w h : ℕ) (lines : List ℕ) where
  pub whole-shown : (places : List X) → IsKept w h lines places → IsGrid (shown w h lines places)
  whole-shown places kept =
      length-changed (λ x y old. slice_index_or places (place_in lines w x y) old) (grid w h places) ∙ kept.whole

  -- a place has the value that its line has there
  pub at-shown : (places : List X) (x y : ℕ) (d : X) → IsKept w h lines places → x < w → y < h →
      at_or (shown w h lines places) x y d ≡ slice_index_or places (place_in lines w x y) d
  at-shown places x y d kept p q =
      let fits = line_fits x y 1 kept q (omega arith) in
      let f : ℕ → ℕ → X → X = λ x y old. slice_index_or places (place_in lines w x y) old in
      let there : at_or (changed f (grid w h places)) x y d ≡ f x y (at_or (grid w h places) x y d) =
      at-changed f (grid w h places) x y d kept.whole p q in
      rw (width-changed f (grid w h places)) at there
      ∙ get_or_default places (place_in lines w x y) _ d (omega (arith, fits))

  -- a grid of the same size with the same at each place is what is shown
  pub shown_is : (places : List X) (k : Grid X) → IsKept w h lines places → IsGrid k →
      k.width ≡ w → k.height ≡ h →
      ((x y : ℕ) (d : X) → x < w → y < h → slice_index_or places (place_in lines w x y) d ≡ at_or k x y d) →
      shown w h lines places ≡ k
  shown_is places k kept whole wide high each =
      same_grid (shown w h lines places) k (whole-shown places kept) whole (sym wide) (sym high)
      (λ x y d p q. at-shown places x y d kept p q ∙ each x y d p q)

  -- places that are changed change what is shown
  pub shown_changed : (f : ℕ → ℕ → X → X) (places new : List X) → IsKept w h lines places →
      length new ≡ length places →
      ((x y : ℕ) (d : X) → x < w → y < h →
      slice_index_or new (place_in lines w x y) d ≡ f x y (slice_index_or places (place_in lines w x y) d)) →
      shown w h lines new ≡ changed f (shown w h lines places)
  shown_changed f places new kept same each =
      let g : Grid X = shown w h lines places in
      let still : IsKept w h lines new = record { whole = same ∙ kept.whole; lines_are = kept.lines_are } in
      shown_is new (changed f g) still (whole-changed f g (whole-shown places kept))
      (width-changed f g) (height-changed f g)
      (λ x y d p q.
      let there = at-changed f g x y d (whole-shown places kept) p q in
      each x y d p q ∙ sym (there ∙ ap (f x y) (at-shown places x y d kept p q)))

  -- the same of as many rows as there are lines
  pub rows_changed : (f : ℕ → ℕ → X → X) (places new : List X) → IsKept w h lines places →
      length new ≡ length places →
      ((x y : ℕ) (d : X) → x < w → y < length lines →
      slice_index_or new (place_in lines w x y) d ≡ f x y (slice_index_or places (place_in lines w x y) d)) →
      shown w h lines new ≡ changed f (shown w h lines places)
  rows_changed f places new kept same each =
      shown_changed f places new kept same (λ x y d p q. each x y d p (rw kept.lines_are.each q))

  -- places show a copy where a rectangle of them has what another had
  pub copy_shown : (r : Rect) (sx sy : ℕ) (places new : List X) → IsKept w h lines places →
      length new ≡ length places → Holds (shown w h lines places) (record r { x = sx; y = sy }) →
      ((x y : ℕ) (d : X) → x < w → y < length lines →
      slice_index_or new (place_in lines w x y) d
      ≡ (if contains r x y then slice_index_or places (place_in lines w (sx + (x - r.x)) (sy + (y - r.y))) d
      else slice_index_or places (place_in lines w x y) d)) →
      shown w h lines new ≡ copied r sx sy (shown w h lines places)
  copy_shown r sx sy places new kept same held each =
      rows_changed
      (λ x y old. if contains r x y then at_or (shown w h lines places) (sx + (x - r.x)) (sy +
      (y - r.y)) old else old)
      places new kept same
      (λ x y d p q.
      at_value (contains r x y) _ _ _ _ (each x y d p q)
      (λ e.
      let there = contains_true r x y e in
      let column : sx + (x - r.x) < w = omega (arith, held.0) in
      let row : sy + (y - r.y) < h = omega (arith, held.1) in
      let fits = line_fits (sx + (x - r.x)) (sy + (y - r.y)) 1 kept row (omega arith) in
      get_or_default places (place_in lines w (sx + (x - r.x)) (sy + (y - r.y))) d _ (omega (arith, fits))
      ∙ sym (at-shown places (sx + (x - r.x)) (sy + (y - r.y)) _ kept column row)))

  -- values written from (x, y) on are in their row
  pub line_written : (places : List X) (x y i j : ℕ) (row : List X) (d now old : X) → IsKept w h lines places →
      x + length row ≤ w → y < h → i < w → j < h →
      now ≡ (if nat_le (place_in lines w x y) (place_in lines w i j)
      && nat_lt (place_in lines w i j) (place_in lines w x y + length row)
      then slice_index_or row (place_in lines w i j - place_in lines w x y) d else old) →
      now ≡ (if contains (record { x = x; y = y; w = length row; h = 1 }) i j
      then slice_index_or row (i - x) old else old)
  line_written places x y i j row d now old kept fits l p q is =
      let written = rw (index_in_line w h lines x y (length row) i j kept.lines_are l q fits p) at is in
      at_value (contains (record { x = x; y = y; w = length row; h = 1 }) i j) now _ _ old written
      (λ e.
      let h = column_in_line lines x y (length row) w i j e in
      rw (h.0) (get_or_default row (i - x) d old h.1))

  -- a part of a row has what its line has there
  pub row_shown : (places : List X) (x y n : ℕ) → IsKept w h lines places → x + n ≤ w → y < h →
      take n (drop (place_in lines w x y) places) ≡ row_of (shown w h lines places) x y n
  row_shown places x y n kept p q =
      let fits = line_fits x y n kept q p in
      let piece : length (take n (drop (place_in lines w x y) places)) ≡ n =
      length-take-le n (drop (place_in lines w x y) places) (rw length-drop (omega (arith, fits))) in
      same_lists (take n (drop (place_in lines w x y) places)) (row_of (shown w h lines places) x y n)
      (piece ∙ sym (length-row_of (shown w h lines places) x y n (whole-shown places kept) p q))
      (λ k d l.
      let below : k < n = omega (arith, piece, l) in
      let on : place_in lines w x y + k ≡ place_in lines w (x + k) y = omega arith in
      get_or-take n (drop (place_in lines w x y) places) k d below
      ∙ (get_or-drop (place_in lines w x y) places k d
      ∙ (ap (λ m. slice_index_or places m d) on
      ∙ (sym (at-shown places (x + k) y d kept (omega arith) q)
      ∙ sym (slice_index_or-row_of (shown w h lines places) x y n k d below)))))

-- rows in the order of their lines have lines
pub ordered_lines : (h : ℕ) (lines : List ℕ) → AreInOrder h lines → AreLines h lines
ordered_lines h lines order = record {
  each = order.each;
  there = λ y q. rw (order.same y q) q;
  apart = λ i j p q e. sym (order.same i p) ∙ e ∙ order.same j q;
}

-- places of one value show it everywhere
pub uniform_shown : {X : Type 0} (w h : ℕ) (lines : List ℕ) (value : X) (places : List X) → AreInOrder h lines →
    places ≡ replicate (length places) value → length places ≡ h * w →
    shown w h lines places ≡ uniform w h value
uniform_shown w h lines value places order all whole =
    let kept : IsKept w h lines places = record { whole = whole; lines_are = ordered_lines h lines order } in
    shown_is w h lines places (uniform w h value) kept (whole-uniform w h value) (width-uniform w h value)
    (height-uniform w h value)
    (λ x y d p q.
    let fits = line_fits x y 1 kept q (omega arith) in
    ap (λ l. slice_index_or l (place_in lines w x y) d) all
    ∙ get_or-replicate (length places) (place_in lines w x y) value d (omega (arith, fits))
    ∙ sym (at-uniform w h value x y d p q))
