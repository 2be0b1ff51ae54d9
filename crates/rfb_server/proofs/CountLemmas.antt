-- Places of a rectangle that have the wanted pixel, counted, and what a copy gains.
use Rattle.std.proofs.Common.{◌≡◌, ℕ, zero, suc, ◌+◌, ◌-◌, ◌<◌, ◌≤◌, Bool, true, false, not, Option, None}
use Rattle.std.proofs.Common.{if◌then◌else◌, refl, sym, ap, ◌∙◌, arith, add-one, inl, inr}
use Rattle.std.proofs.lemmas.Bool.{cases_lt}
use mir.Val.{bool_byte}
use Rattle.rfb_picture.specs.declared.rect.Rect.{Rect}
use Rattle.rfb_picture.specs.Rect.{contains}
use Rattle.rfb_picture.specs.Grid.{IsGrid, Holds}
use Rattle.rfb_picture.proofs.GridLaws.{contains_row, contains_true}
use Rattle.rfb_picture.proofs.CopyLaws.{at-copied}
use Rattle.rfb_codec.specs.RectData.{moved_to}
use Rattle.rfb_server.specs.Server.{ServerState}
use Rattle.rfb_server.specs.Request.{wanted, differs}
use Rattle.rfb_server.specs.Composition.{Move, moved, is_right, count_row, count_rows, count_in}
use Rattle.rfb_server.specs.update.Copies.{is_right_from}

-- a truth as a number
pub byte_is : (b : Bool) → bool_byte b ≡ (if b then 1 else 0)
byte_is true = refl
byte_is false = refl

-- one place more, and one row more
pub row_more : (p : ℕ → ℕ → Bool) (x y w : ℕ) →
    count_row p x y (w + 1) ≡ count_row p x y w + (if p (x + w) y then 1 else 0)
row_more p x y w = ap (count_row p x y) (add-one w)

pub rows_more : (p : ℕ → ℕ → Bool) (x y w h : ℕ) →
    count_rows p x y w (h + 1) ≡ count_rows p x y w h + count_row p x (y + h) w
rows_more p x y w h = ap (count_rows p x y w) (add-one h)

-- marks that are the same in a row, or in rows, are as many
pub row_same : (p q : ℕ → ℕ → Bool) (x y w : ℕ) → ((i : ℕ) → i < w → p (x + i) y ≡ q (x + i) y) →
    count_row p x y w ≡ count_row q x y w
row_same p q x y zero same = refl
row_same p q x y (suc w) same = rw (row_same p q x y w (λ i l. same i (omega arith)), same w (omega arith)) refl

pub rows_same : (p q : ℕ → ℕ → Bool) (x y w h : ℕ) →
    ((i j : ℕ) → i < w → j < h → p (x + i) (y + j) ≡ q (x + i) (y + j)) →
    count_rows p x y w h ≡ count_rows q x y w h
rows_same p q x y w zero same = refl
rows_same p q x y w (suc h) same =
    rw (
      rows_same p q x y w h (λ i j l m. same i j l (omega arith)),
      row_same p q x (y + h) w (λ i l. same i h l (omega arith)),
    ) refl

pub same_in : (p q : ℕ → ℕ → Bool) (r : Rect) → ((x y : ℕ) → contains r x y ≡ true → p x y ≡ q x y) →
    count_in p r ≡ count_in q r
same_in p q r same =
    rows_same p q r.x r.y r.w r.h (λ i j l m. same (r.x + i) (r.y + j)
    (contains_row r (r.x + i) (r.y + j) (omega arith) (omega arith) (omega arith) (omega arith)))

-- where there are fewer marks of the first kind than of another, a place has none
place_by : (b : Bool) (n m : ℕ) → n + (if b then 1 else 0) < m + 1 → m ≤ n → b ≡ false
place_by true n m l o = absurd (omega arith)
place_by false n m l o = refl

pub at_most : (b : Bool) → (if b then 1 else 0) ≤ 1
at_most true = omega arith
at_most false = omega arith

pub missing_in_row : (p q : ℕ → ℕ → Bool) (x y w : ℕ) → count_row p x y w < count_row q x y w →
    (i : ℕ) × (i < w) × (p (x + i) y ≡ false)
missing_in_row p q x y zero l = absurd (omega arith)
missing_in_row p q x y (suc w) l =
    elim (cases_lt (count_row p x y w) (count_row q x y w)) [
      | inl less ↦ let (i, b, m) = missing_in_row p q x y w less in (i, omega arith, m)
      | inr more ↦ (
        w,
        omega arith,
        place_by (p (x + w) y) (count_row p x y w) (count_row q x y w) (omega (arith, l, at_most (q (x + w) y))) more,
      )
    ]

pub missing_in_rows : (p q : ℕ → ℕ → Bool) (x y w h : ℕ) → count_rows p x y w h < count_rows q x y w h →
    (i : ℕ) × (j : ℕ) × (i < w) × (j < h) × (p (x + i) (y + j) ≡ false)
missing_in_rows p q x y w zero l = absurd (omega arith)
missing_in_rows p q x y w (suc h) l =
    elim (cases_lt (count_rows p x y w h) (count_rows q x y w h)) [
      | inl less ↦ let (i, j, a, b, m) = missing_in_rows p q x y w h less in (i, j, a, omega arith, m)
      | inr more ↦ let (i, a, m) = missing_in_row p q x (y + h) w (omega (arith, l)) in (i, h, a, omega arith, m)
    ]

-- ---- a copy

module _ (s : ServerState) (move : Move) (sound : IsGrid s.known) (target : Holds s.known move.to)
    (source : Holds s.known (moved_to move.sx move.sy move.to)) where
  right_before : (x y : ℕ) → contains move.to x y ≡ true →
      is_right_from s.screen s.known s.form move.to move.to.x move.to.y x y ≡ is_right s x y
  right_before x y c =
      let (a, b, d, e) = contains_true move.to x y c in
      let column : move.to.x + (x - move.to.x) ≡ x = omega arith in
      let row : move.to.y + (y - move.to.y) ≡ y = omega arith in
      rw (column, row) refl

  right_after : (x y : ℕ) → contains move.to x y ≡ true →
      is_right_from s.screen s.known s.form move.to move.sx move.sy x y ≡ is_right (moved move s) x y
  right_after x y c =
      let (a, b, d, e) = contains_true move.to x y c in
      let there = at-copied move.to move.sx move.sy s.known x y None sound source
      (omega (arith, target)) (omega (arith, target)) in
      ap (λ (old : Option ℕ). not (differs (wanted s x y) old)) (sym (there ∙ (rw c refl)))

  -- more places are right after it if more would be
  pub gain_is : count_in (is_right_from s.screen s.known s.form move.to move.to.x move.to.y) move.to
      < count_in (is_right_from s.screen s.known s.form move.to move.sx move.sy) move.to →
      count_in (is_right s) move.to < count_in (is_right (moved move s)) move.to
  gain_is more =
      rw (
        ← same_in (is_right_from s.screen s.known s.form move.to move.to.x move.to.y) (is_right s) move.to right_before,
        ← same_in (is_right_from s.screen s.known s.form move.to move.sx move.sy)
            (is_right (moved move s)) move.to right_after,
      ) more

  -- and only if
  pub gain_only : count_in (is_right s) move.to < count_in (is_right (moved move s)) move.to →
      count_in (is_right_from s.screen s.known s.form move.to move.to.x move.to.y) move.to
      < count_in (is_right_from s.screen s.known s.form move.to move.sx move.sy) move.to
  gain_only more =
      rw (
        same_in (is_right_from s.screen s.known s.form move.to move.to.x move.to.y) (is_right s) move.to right_before,
        same_in (is_right_from s.screen s.known s.form move.to move.sx move.sy)
            (is_right (moved move s)) move.to right_after,
      ) more
