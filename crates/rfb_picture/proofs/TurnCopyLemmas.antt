-- A copy of rows all across is a copy of few of them, once their lines went round.
use Rattle.std.proofs.Common.{ℕ, List, ◌≡◌, ◌+◌, ◌-◌, ◌*◌, ◌<◌, ◌≤◌, ◌∙◌, ap, sym}
use Rattle.std.proofs.Common.{refl, arith}
use Rattle.std.proofs.Common.{slice_index_or}
use Rattle.std.proofs.Common.{false, if◌then◌else◌, inl, inr, ◌⊎◌}
use Rattle.std.proofs.lemmas.Bool.Decides.{nat_tests}
use Rattle.rfb_picture.specs.declared.picture.lines.Rows.{Rows}
use Rattle.rfb_picture.specs.declared.rect.Rect.{Rect}
use Rattle.rfb_picture.specs.Rect.{contains}
use Rattle.rfb_picture.specs.Grid.{Grid, Holds, at_or, copied}
use Rattle.rfb_picture.specs.layout.Lines.{IsKept, shown}
use Rattle.rfb_picture.specs.layout.Turn.{Turned, line_from, rest_of}
use Rattle.rfb_picture.proofs.SettleLemmas.{chosen, left}
use Rattle.rfb_picture.proofs.ShownLemmas.{at-shown, whole-shown}
use Rattle.rfb_picture.proofs.CopyLemmas.{at-copied}
use Rattle.rfb_picture.proofs.GridLemmas.{contains_row, height-changed, same_grid, whole-changed, width-changed}
use Rattle.rfb_picture.proofs.TurnLemmas.{Where, below_or_not, down}
use Rattle.rfb_picture.proofs.TurnLemmas.{of_others}
use Rattle.rfb_picture.proofs.TurnLemmas.{of_target, up, where_is}
use Rattle.rfb_picture.proofs.TurnedLemmas.{line_within, lines_turned}

-- what is shown in a row is what was shown in the row whose line it got
pub shown_turned : {X : Type 0} (w h : ℕ) (rows : Rows) (old new : List ℕ) (places : List X) (x y : ℕ) (d : X) →
    rows.to + rows.count ≤ h → rows.from + rows.count ≤ h →
    rows.to ≤ rows.from + rows.count → rows.from ≤ rows.to + rows.count →
    IsKept w h old places → Turned rows old new → x < w → y < h →
    at_or (shown w h new places) x y d ≡ at_or (shown w h old places) x (line_from rows y) d
shown_turned w h rows old new places x y d to_fits from_fits down_near up_near kept turned p q =
    let still : IsKept w h new places = record {
      whole = kept.whole;
      lines_are = lines_turned h rows old new to_fits from_fits down_near up_near kept.lines_are turned;
    } in
    at-shown w h new places x y d still p q
    ∙ ap (λ l. slice_index_or places (l * w + x) d) (turned.lines y (rw kept.lines_are.each q))
    ∙ sym (at-shown w h old places x (line_from rows y) d kept p
    (line_within h rows y to_fits from_fits q (where_is rows y)))

pub not_contained : (r : Rect) (x y : ℕ) → (y < r.y) ⊎ (r.y + r.h ≤ y) → contains r x y ≡ false
not_contained r x y (inl l) = grind (arith, nat_tests)
not_contained r x y (inr l) = grind (arith, nat_tests)

-- a row that is written is not left
pub target_not_rest : (rows : Rows) (y : ℕ) → rows.to ≤ y → y < rows.to + rows.count →
    (y < (rest_of rows).to) ⊎ ((rest_of rows).to + (rest_of rows).count ≤ y)
target_not_rest rows y p q =
    elim (below_or_not rows.from rows.to) [
      | inl below ↦
          let last : rows.from + (rows.to - rows.from) ≤ y = omega (arith, below, p) in
          inr (rw (down rows below) last)
      | inr above ↦ inl (rw (up rows above) q)
    ]

-- the source of a row that is left is written, from that row
pub rest_source : (rows : Rows) (y : ℕ) → rows.to ≤ rows.from + rows.count →
    rows.from ≤ rows.to + rows.count →
    (rest_of rows).to ≤ y → y < (rest_of rows).to + (rest_of rows).count →
    line_from rows ((rest_of rows).from + (y - (rest_of rows).to)) ≡ y
rest_source rows y down_near up_near p q =
    elim (below_or_not rows.from rows.to) [
      | inl below ↦
          let rest = down rows below in
          let first : rows.from ≤ y = rw rest at p in
          let last : y < rows.from + (rows.to - rows.from) = rw rest at q in
          let to : (rest_of rows).to ≡ rows.from = rw rest refl in
          let from : (rest_of rows).from ≡ rows.to = rw rest refl in
          let at : rows.from + (rows.to + (y - rows.from) - rows.to) ≡ y = omega (arith, first) in
          ap (line_from rows) (omega (arith, to, from))
          ∙ of_target rows (rows.to + (y - rows.from)) (omega arith) (omega
          (arith, first, last, below, down_near)) ∙ at
      | inr above ↦
          let rest = up rows above in
          let first : rows.to + rows.count ≤ y = rw rest at p in
          let last : y < rows.to + rows.count + (rows.from - rows.to) = rw rest at q in
          let at : rows.from + (rows.to + rows.count - (rows.from - rows.to) + (y -
          (rows.to + rows.count)) - rows.to) ≡ y =
          omega (arith, first, above, up_near) in
          let to : (rest_of rows).to ≡ rows.to + rows.count = rw rest refl in
          let from : (rest_of rows).from ≡ rows.to + rows.count - (rows.from - rows.to) = rw rest refl in
          ap (line_from rows) (omega (arith, to, from))
          ∙ of_target rows (rows.to + rows.count - (rows.from - rows.to) + (y - (rows.to + rows.count)))
          (omega (arith, first, above, up_near)) (omega (arith, first, last, above, up_near)) ∙ at
    ]

pub rest_fits : (rows : Rows) (h : ℕ) → rows.to + rows.count ≤ h → rows.from + rows.count ≤ h →
    rows.to ≤ rows.from + rows.count → rows.from ≤ rows.to + rows.count →
    (rest_of rows).from + (rest_of rows).count ≤ h
rest_fits rows h to_fits from_fits down_near up_near =
    elim (below_or_not rows.from rows.to) [
      | inl below ↦
          let last : rows.to + (rows.to - rows.from) ≤ h = omega (arith, below, to_fits, down_near) in
          rw (down rows below) last
      | inr above ↦
          let last : rows.to + rows.count - (rows.from - rows.to) + (rows.from - rows.to) ≤ h =
          omega (arith, above, to_fits, up_near) in
          rw (up rows above) last
    ]

-- so a copy of rows all across is a copy of few of them once their lines went round
module _ {X : Type 0} (w h : ℕ) (dst : Rect) (sx sy : ℕ) (old new : List ℕ) (places : List X)
    (first : dst.x ≡ 0) (wide : dst.w ≡ w) (from_first : sx ≡ 0)
    (to_fits : dst.y + dst.h ≤ h) (from_fits : sy + dst.h ≤ h)
    (down_near : dst.y ≤ sy + dst.h) (up_near : sy ≤ dst.y + dst.h)
    (kept : IsKept w h old places)
    (turned : Turned (record { to = dst.y; from = sy; count = dst.h }) old new) where
  abbrev those : Rows
  those = record { to = dst.y; from = sy; count = dst.h }

  abbrev left_over : Rect
  left_over = record { x = dst.x; y = (rest_of those).to; w = dst.w; h = (rest_of those).count }

  pub still_kept : IsKept w h new places
  still_kept = record {
    whole = kept.whole;
    lines_are = lines_turned h those old new to_fits from_fits down_near up_near kept.lines_are turned;
  }

  column : (x : ℕ) → sx + (x - dst.x) ≡ x
  column x = omega (arith, first, from_first)

  abbrev before : Grid X
  before = shown w h old places

  abbrev after : Grid X
  after = shown w h new places

  turned_at : (x y : ℕ) (d : X) → x < w → y < h → at_or after x y d ≡ at_or before x (line_from those y) d
  turned_at x y d p q =
      shown_turned w h those old new places x y d to_fits from_fits down_near up_near kept turned p q

  each_copied : (x y : ℕ) (d : X) → x < w → y < h → Where those y →
      (if contains left_over x y then at_or after (sx + (x - dst.x)) ((rest_of those).from + (y -
      (rest_of those).to)) d
      else at_or after x y d)
      ≡ (if contains dst x y then at_or before (sx + (x - dst.x)) (sy + (y - dst.y)) d else at_or before x y d)
  each_copied x y d p q (inl (k, l)) =
      left (contains left_over x y) _ _ (not_contained left_over x y (target_not_rest those y k l))
      ∙ turned_at x y d p q
      ∙ ap (λ m. at_or before x m d) (of_target those y k l)
      ∙ ap (λ m. at_or before m (sy + (y - dst.y)) d) (sym (column x))
      ∙ sym (chosen (contains dst x y) _ _ (contains_row dst x y (omega (arith, first)) (omega
      (arith, first, wide, p)) k l))
  each_copied x y d p q (inr (inl (other, k, l))) =
      let v : ℕ = (rest_of those).from + (y - (rest_of those).to) in
      let fits = rest_fits those h to_fits from_fits down_near up_near in
      chosen (contains left_over x y) _ _
      (contains_row left_over x y (omega (arith, first)) (omega (arith, first, wide, p)) k l)
      ∙ ap (λ m. at_or after m v d) (column x)
      ∙ turned_at x v d p (omega (arith, fits, k, l))
      ∙ ap (λ m. at_or before x m d) (rest_source those y down_near up_near k l)
      ∙ sym (left (contains dst x y) _ _ (not_contained dst x y other))
  each_copied x y d p q (inr (inr (other, outside))) =
      left (contains left_over x y) _ _ (not_contained left_over x y outside)
      ∙ turned_at x y d p q
      ∙ ap (λ m. at_or before x m d) (of_others those y other outside)
      ∙ sym (left (contains dst x y) _ _ (not_contained dst x y other))

  pub turned_copy : copied left_over sx (rest_of those).from after ≡ copied dst sx sy before
  turned_copy =
      let whole_after = whole-shown w h new places still_kept in
      let whole_before = whole-shown w h old places kept in
      let fits = rest_fits those h to_fits from_fits down_near up_near in
      let held_after : Holds after (record left_over { x = sx; y = (rest_of those).from }) =
      (omega (arith, from_first, wide), fits) in
      let held_before : Holds before (record dst { x = sx; y = sy }) = (omega (arith, from_first, wide), from_fits) in
      same_grid (copied left_over sx (rest_of those).from after) (copied dst sx sy before)
      (whole-changed _ after whole_after) (whole-changed _ before whole_before)
      (width-changed _ after ∙ sym (width-changed _ before))
      (height-changed _ after ∙ sym (height-changed _ before))
      (λ x y d p q.
      let in_row : x < w = rw (width-changed _ after) at p in
      let in_height : y < h = rw (height-changed _ after) at q in
      at-copied left_over sx (rest_of those).from after x y d whole_after held_after in_row in_height
      ∙ each_copied x y d in_row in_height (where_is those y)
      ∙ sym (at-copied dst sx sy before x y d whole_before held_before in_row in_height))
