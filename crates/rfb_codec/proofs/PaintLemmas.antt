-- Laws of painting: where pixels are read from, and what a picture is after each of them.
use Rattle.std.proofs.Common.{◌≡◌, ℕ, ◌+◌, ◌-◌, ◌*◌, ◌<◌, ◌≤◌, List, length, take, drop, arith, refl, sym, ap, ◌∙◌}
use Rattle.std.proofs.Common.{Bool, true, false, if◌then◌else◌, ◌&&◌, ◌||◌}
use Rattle.std.specs.Prelude.{slice_index_or}
use Rattle.std.proofs.lemmas.List.{drop-drop, drop-take}
use Rattle.std.proofs.Math.Nat.{mul-le-mul_right}
use Rattle.rfb_pixel.specs.declared.colour.Colour.{Colour}
use Rattle.rfb_pixel.specs.Format.{PixelFormat, colour_of, pixel_number, size_of}
use Rattle.rfb_pixel.proofs.FormatLaws.{pixel_number-take}
use Rattle.rfb_picture.specs.declared.rect.Rect.{Rect}
use Rattle.rfb_picture.specs.Rect.{contains}
use Rattle.rfb_picture.specs.Grid.{Grid, IsGrid, at_or, changed, with_row, with_run}
use Rattle.rfb_picture.proofs.GridLaws.{at-changed, changed_twice, contains_more, contains_true, height-changed}
use Rattle.rfb_picture.proofs.GridLaws.{same_changes, same_grid, whole-changed, width-changed}
use Rattle.rfb_picture.proofs.LoanLaws.{run_in_row}
use Rattle.rfb_codec.specs.Pixels.{drawn}
use Rattle.rfb_codec.specs.Raw.{raw_pixel}
use Rattle.rfb_codec.specs.RectData.{replaced}
use Rattle.rfb_codec.specs.Painter.{over}
use Rattle.rfb_codec.specs.decoder.Step.{PaintsOver}
use Rattle.rfb_codec.proofs.PixelLaws.{at-drawn}

-- ---- pixels

-- a pixel of a part of the bytes is a pixel of all of them
pub pixel_number-part : (f : PixelFormat) (bytes : List ℕ) (start size n : ℕ) → n + size_of f ≤ size →
    pixel_number f (drop n (take size (drop start bytes))) ≡ pixel_number f (drop (start + n) bytes)
pixel_number-part f bytes start size n within =
    let rest = size - n in
    let split : n + rest ≡ size = omega arith in
    let part : drop n (take size (drop start bytes)) ≡ take rest (drop n (drop start bytes)) =
    ap (λ (m : ℕ). drop n (take m (drop start bytes))) (sym split) ∙ drop-take n rest (drop start bytes) in
    ap (pixel_number f) part ∙ pixel_number-take f (drop n (drop start bytes)) rest (omega arith)
    ∙ ap (pixel_number f) (drop-drop n start bytes)

-- a pixel of a row, which has a part of the bytes for itself, is the rectangle's pixel there
pub pixel_of_row : (f : PixelFormat) (bytes : List ℕ) (n k w n' w' size part : ℕ) →
    n' ≡ n → w' ≡ w → size ≡ size_of f → part ≡ w' * size → k < w →
    pixel_number f (drop (k * size_of f) (take part (drop (n' * (w' * size)) bytes))) ≡ raw_pixel f w bytes k n
pixel_of_row f bytes n k w n' w' size part rows columns sizes parts below =
    let within : (k + 1) * size_of f ≤ w * size_of f = mul-le-mul_right (size_of f) (omega arith) in
    let place : n' * (w' * size) + k * size_of f ≡ (n * w + k) * size_of f = rw (rows, columns, sizes) (omega arith) in
    let enough : k * size_of f + size_of f ≤ part = rw (parts, columns, sizes) (omega arith) in
    pixel_number-part f bytes (n' * (w' * size)) part (k * size_of f) enough
    ∙ ap (λ (m : ℕ). pixel_number f (drop m bytes)) place

-- ---- pictures

either : {A : Type 0} (b : Bool) (u v w : A) → (b ≡ true → u ≡ v) → (if b then u else w) ≡ (if b then v else w)
either true u v w same = same refl
either false u v w same = refl

-- its colours over a rectangle are what the block makes of a picture
pub over_drawn : (f : PixelFormat) (rect : Rect) (c : ℕ → ℕ → ℕ) (g : Grid Colour) → IsGrid g →
    over rect (λ x y. colour_of f (c x y)) g ≡ replaced f rect (drawn rect.w rect.h c) g
over_drawn f rect c g whole =
    same_changes _ _ g whole
    (λ x y d p q. either (contains rect x y) _ _ (at_or g x y d)
    (λ e.
    let h = contains_true rect x y e in
    ap (colour_of f) (sym (at-drawn rect.w rect.h c (x - rect.x) (y - rect.y) 0 (omega arith) (omega arith)))))

-- where a test holds at each place of the rectangle, what is painted where it holds is painted over all
pub over_all : (rect : Rect) (test : ℕ → ℕ → Bool) (c : ℕ → ℕ → Colour) (g : Grid Colour) →
    IsGrid g → ((x y : ℕ) → x < rect.w → y < rect.h → test x y ≡ true) →
    changed (λ x y old. if contains rect x y && test (x - rect.x) (y - rect.y) then c (x - rect.x) (y - rect.y)
    else old) g ≡ over rect c g
over_all rect test c g whole holds =
    same_changes _ _ g whole
    (λ x y d p q. by (contains rect x y) (c (x - rect.x) (y - rect.y)) (at_or g x y d)
    (λ e.
    let h = contains_true rect x y e in
    holds (x - rect.x) (y - rect.y) (omega arith) (omega arith)))
  where
    by : (b : Bool) (c old : Colour) {t : Bool} → (b ≡ true → t ≡ true) →
        (if b && t then c else old) ≡ (if b then c else old)
    by true c old on = rw (on refl) refl
    by false c old on = refl

-- over no rows nothing is painted
pub over_none : (rect : Rect) (c : ℕ → ℕ → Colour) (g : Grid Colour) → IsGrid g → g ≡ over (record rect { h = 0 }) c g
over_none rect c g whole =
    let none = record rect { h = 0 } in
    let drawing = λ (x y : ℕ) (old : Colour). if contains none x y then c (x - rect.x) (y - rect.y) else old in
    same_grid g (over none c g) whole (whole-changed drawing g whole) (sym (width-changed drawing g))
    (sym (height-changed drawing g))
    (λ x y d p q. sym (at-changed drawing g x y d whole p q
    ∙ unseen (contains none x y) _ _ (λ e. let h = contains_true none x y e in absurd (omega arith))))
  where
    unseen : (b : Bool) (c old : Colour) → (b ≡ true → ⊥) → (if b then c else old) ≡ old
    unseen true c old never = absurd (never refl)
    unseen false c old never = refl

-- a place of one more row: what was written there, or what was painted before
painted_place : (first row : Bool) (written c old : Colour) → (row ≡ true → written ≡ c) →
    (if row then written else (if first then c else old)) ≡ (if first || row then c else old)
painted_place true true written c old same = same refl
painted_place true false written c old same = refl
painted_place false true written c old same = same refl
painted_place false false written c old same = refl

-- with one row more written it is painted over one row more
pub over_more : (rect : Rect) (n : ℕ) (c : ℕ → ℕ → Colour) (row : List Colour) (g : Grid Colour) →
    IsGrid g → length row ≡ rect.w → ((k : ℕ) (d : Colour) → k < rect.w → slice_index_or row k d ≡ c k n) →
    with_row rect.x (rect.y + n) row (over (record rect { h = n }) c g) ≡ over (record rect { h = n + 1 }) c g
over_more rect n c row g whole len each =
    changed_twice _ _ g
    ∙ same_changes _ _ g whole
    (λ x y d p q.
    let old = at_or g x y d in
    let first = contains (record rect { h = n }) x y in
    let in_row = contains (record { x = rect.x; y = rect.y + n; w = rect.w; h = 1 }) x y in
    let before = if first then c (x - rect.x) (y - rect.y) else old in
    let place : (if in_row then slice_index_or row (x - rect.x) before else before)
    ≡ (if first || in_row then c (x - rect.x) (y - rect.y) else old) =
    painted_place first in_row (slice_index_or row (x - rect.x) before) (c (x - rect.x) (y - rect.y)) old
    (λ e.
    let h = contains_true (record { x = rect.x; y = rect.y + n; w = rect.w; h = 1 }) x y e in
    let line : y - rect.y ≡ n = omega arith in
    each (x - rect.x) before (omega arith) ∙ ap (λ m. c (x - rect.x) m) (sym line)) in
    rw (len, place, contains_more rect n x y) refl)

-- no row is painted
pub rows_none : (rect : Rect) {c : ℕ → ℕ → Colour} {old : Grid Colour} → IsGrid old →
    PaintsOver (record rect { h = 0 }) c old old
rows_none rect {c} {old} whole = record { value = over_none rect c old whole; width = refl; height = refl }

-- with the row after them written they are one more
pub rows_more : (rect : Rect) {c : ℕ → ℕ → Colour} {n : ℕ} {now old : Grid Colour} (row : List Colour) →
    PaintsOver (record rect { h = n }) c old now → IsGrid now → IsGrid old → length row ≡ rect.w →
    rect.x + rect.w ≤ now.width → ((k : ℕ) (d : Colour) → k < rect.w → slice_index_or row k d ≡ c k n) →
    PaintsOver (record rect { h = n + 1 }) c old (with_run rect.x (rect.y + n) row now)
rows_more rect {c} {n} {now} {old} row rows whole whole_old len fits each = record {
  value = run_in_row rect.x (rect.y + n) row now whole (omega (arith, len, fits))
      ∙ ap (λ g. with_row rect.x (rect.y + n) row g) rows.value ∙ over_more rect n c row old whole_old len each;
  width = rows.width;
  height = rows.height;
}
