-- Laws of a list whose values are written over a rectangle, row after row.
use Rattle.std.proofs.Common.{ℕ, List, ◌≡◌, ◌+◌, ◌-◌, ◌*◌, ◌<◌, ◌≤◌, length, take, drop}
use Rattle.std.proofs.Common.{◌∙◌, arith, if◌then◌else◌}
use Rattle.std.proofs.Common.{slice_index_or, nat_le, nat_lt, ◌&&◌}
use Rattle.std.proofs.lemmas.List.{get_or-take, get_or-drop, get_or_default}
use Rattle.rfb_picture.specs.declared.rect.Rect.{Rect}
use Rattle.rfb_picture.specs.Rect.{contains}
use Rattle.rfb_picture.specs.layout.Lines.{AreLines, place_in}
use Rattle.rfb_picture.proofs.GridLemmas.{contains_true, contains_more, place_below}
use Rattle.rfb_picture.proofs.LineLemmas.{column_in_line, index_in_line}
use Rattle.rfb_picture.proofs.GridLemmas.{either, at_value}

module _ {X : Type 0} where
  -- the values of the n-th of such rows are those n rows on in the list
  row_read : (rows : List X) (n c i : ℕ) (d : X) → i < c →
      slice_index_or (take c (drop (n * c) rows)) i d ≡ slice_index_or rows (n * c + i) d
  row_read rows n c i d l =
      get_or-take c (drop (n * c) rows) i d l ∙ get_or-drop (n * c) rows i d

  -- with the places of one row more, a rectangle of one row more has its values
  pub line_put : (w h : ℕ) (lines : List ℕ) (r : Rect) (n x y : ℕ) (rows piece : List X)
      (d now before first : X) →
      AreLines h lines → r.x + r.w ≤ w → r.y + n < h → x < w → y < h →
      length piece ≡ r.w →
      piece ≡ take r.w (drop (n * r.w) rows) →
      before ≡ (if contains (record r { h = n }) x y
      then slice_index_or rows ((y - r.y) * r.w + (x - r.x)) d else first) →
      now ≡ (if nat_le (place_in lines w r.x (r.y + n)) (place_in lines w x y)
      && nat_lt (place_in lines w x y) (place_in lines w r.x (r.y + n) + length piece)
      then slice_index_or piece (place_in lines w x y - place_in lines w r.x (r.y + n)) d else before) →
      now ≡ (if contains (record r { h = n + 1 }) x y
      then slice_index_or rows ((y - r.y) * r.w + (x - r.x)) d else first)
  line_put w h lines r n x y rows piece d now before first are p m q l len cut was is =
      let row = index_in_line w h lines r.x (r.y + n) r.w x y are m l p q in
      let last : Rect = record { x = r.x; y = r.y + n; w = r.w; h = 1 } in
      rw (contains_more r n x y)
      (either (contains (record r { h = n }) x y) _ now _ first
      (at_value (contains last x y) now _ _ _ (rw (len, row, was) at is)
      (λ e.
      let h = column_in_line lines r.x (r.y + n) r.w w x y e in
      let at_row = contains_true last x y e in
      let same : y - r.y ≡ n = omega arith in
      rw (h.0, cut, same) (row_read rows n r.w (x - r.x) d h.1))))

  -- what is read lies in the list, so it does not matter what is read after its end
  pub rows_read : (r : Rect) (rows : List X) (x y : ℕ) (now here d other : X) →
      length rows ≡ r.h * r.w →
      now ≡ (if contains r x y then slice_index_or rows ((y - r.y) * r.w + (x - r.x)) d else here) →
      now ≡ (if contains r x y then slice_index_or rows ((y - r.y) * r.w + (x - r.x)) other
      else here)
  rows_read r rows x y now here d other len is =
      at_value (contains r x y) now _ _ _ is
      (λ e.
      let h = contains_true r x y e in
      let below = place_below r.w r.h (x - r.x) (y - r.y) (omega arith) (omega arith) in
      get_or_default rows ((y - r.y) * r.w + (x - r.x)) d other (omega (arith, len)))
