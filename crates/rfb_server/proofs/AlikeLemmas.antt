-- Records of two sessions that know the same, and what the one takes from the other.
use Rattle.std.proofs.Common.{◌≡◌, ℕ, ◌<◌, ◌≤◌, ◌+◌, ◌||◌}
use Rattle.std.proofs.Common.{◌↔◌, Bool, true, false, List}
use Rattle.std.proofs.Common.{ap, sym, ◌∙◌, refl, arith, Option, Some, None}
use Rattle.std.proofs.Common.{if◌then◌else◌, IsNone}
use Rattle.std.specs.Option.{is_some}
use Rattle.std.proofs.lemmas.Bool.{both_ways}
use Rattle.rfb_picture.specs.declared.rect.Rect.{Rect}
use Rattle.rfb_picture.specs.Rect.{contains, rect}
use Rattle.rfb_picture.specs.Grid.{Grid, IsGrid, Holds, at_or, row_of, filled}
use Rattle.rfb_picture.specs.Box.{is_in}
use Rattle.rfb_picture.proofs.GridLaws.{contains_more, contains_true, at-filled}
use Rattle.rfb_server.specs.Record.{AreKnown, record_of}
use Rattle.rfb_server.specs.session.Twins.{AreKnownAlike}
use Rattle.rfb_server.proofs.RecordLemmas.{none_in_no_rows, in_next_row, other_row, at-record_of}
use Rattle.rfb_server.proofs.RecordLemmas.{known_in}

-- ---- rows of two pictures

-- the first rows of the rectangle have the same pixels in both
abbrev pub AreSameRows : Rect → ℕ → Grid ℕ → Grid ℕ → Type 0
AreSameRows rect n one other = (x y : ℕ) → contains (record rect { h = n }) x y ≡ true →
    at_or one x y 0 ≡ at_or other x y 0

pub no_rows : (rect : Rect) (one other : Grid ℕ) → AreSameRows rect 0 one other
no_rows rect one other = λ x y e.
    absurd (both_ways (contains (record rect { h = 0 }) x y) (none_in_no_rows rect x y) e)

-- rows without a difference are the same
pub rows_same : (found : Option ℕ) (a b : List ℕ) → (IsNone found ↔ (a ≡ b)) → is_some found ≡ false →
    a ≡ b
rows_same None a b same e = same.0 refl
rows_same (Some i) a b same e = absurd cc

none_of_both : (a b : Bool) → a ≡ false → b ≡ false → (a || b) ≡ false
none_of_both a b e f = rw (e, f) refl

pub no_either : (a b : Bool) → a ≡ false → b ≡ false → (a || b) ≡ true → ⊥
no_either a b e f some = both_ways (a || b) (none_of_both a b e f) some

pub rows_more : (rect : Rect) (n : ℕ) (one other : Grid ℕ) (row : List ℕ) → IsGrid one → IsGrid other →
    rect.x + rect.w ≤ one.width → rect.x + rect.w ≤ other.width → rect.y + n < one.height →
    rect.y + n < other.height →
    row ≡ row_of one rect.x (rect.y + n) rect.w → row ≡ row_of other rect.x (rect.y + n) rect.w →
    AreSameRows rect n one other → AreSameRows rect (n + 1) one other
rows_more rect n one other row whole whole_too wide wide_too high high_too is is_too same = λ x y e.
    by x y (contains (record rect { h = n }) x y) refl
    (contains (record { x = rect.x; y = rect.y + n; w = rect.w; h = 1 }) x y) refl
    (sym (contains_more rect n x y) ∙ e)
  where
    by : (x y : ℕ) (above : Bool) → contains (record rect { h = n }) x y ≡ above → (here : Bool) →
        contains (record { x = rect.x; y = rect.y + n; w = rect.w; h = 1 }) x y ≡ here →
        (contains (record rect { h = n }) x y || contains
        (record { x = rect.x; y = rect.y + n; w = rect.w; h = 1 }) x y)
        ≡ true → at_or one x y 0 ≡ at_or other x y 0
    by x y true a here h e = same x y a
    by x y false a true h e =
        let place = in_next_row rect n x y h in
        rw (place.2)
        (sym (other_row rect n one row whole wide high is x 0 place.0 place.1)
        ∙ other_row rect n other row whole_too wide_too high_too is_too x 0 place.0 place.1)
    by x y false a false h e = absurd (no_either _ _ a h e)

-- ---- records

-- what is known of a place that is known
pub known_as : (pixels : Grid ℕ) (known : Grid Bool) (x y : ℕ) → x < pixels.width → y < pixels.height →
    (pixel : ℕ) × (at_or (record_of pixels known) x y None ≡ Some pixel) →
    at_or (record_of pixels known) x y None ≡ Some (at_or pixels x y 0)
known_as pixels known x y p q some =
    at-record_of pixels known x y None p q
    ∙ (rw (known_in pixels known x y some.0 p q some.1) refl)

-- where both know all, and have the same pixels, they know the same
pub known_alike : (pixels others : Grid ℕ) (known seen : Grid Bool) (rect : Rect) →
    Holds pixels rect → Holds others rect →
    AreKnown (record_of pixels known) rect → AreKnown (record_of others seen) rect →
    AreSameRows rect rect.h pixels others → AreKnownAlike (record_of pixels known) (record_of others seen) rect
known_alike pixels others known seen rect held held_too all all_too same = λ x y e.
    let (a, b, c, d) = contains_true rect x y e in
    known_as pixels known x y (omega (arith, b, held.0)) (omega (arith, d, held.1)) (all x y e)
    ∙ (ap (λ (k : ℕ). Some k) (same x y e)
    ∙ sym (known_as others seen x y (omega (arith, b, held_too.0)) (omega (arith, d, held_too.1)) (all_too x y e)))

by_taken : (inside known seen : Bool) (v u : ℕ) → (inside ≡ true → seen ≡ true) →
    (if (if inside then true else known) then Some (if inside then v else u) else None)
    ≡ (if inside then (if seen then Some v else None) else (if known then Some u else None))
by_taken true known seen v u all = rw (all refl) refl
by_taken false known seen v u all = refl

-- a record that has taken the pixels of a rectangle, all of them known, from another
pub taken_from : (pixels now others : Grid ℕ) (known seen : Grid Bool) (rect : Rect) →
    IsGrid known → known.width ≡ pixels.width → known.height ≡ pixels.height →
    now.width ≡ pixels.width → now.height ≡ pixels.height →
    others.width ≡ pixels.width → others.height ≡ pixels.height → AreKnown (record_of others seen) rect →
    ((x y : ℕ) → x < pixels.width → y < pixels.height →
    at_or now x y 0 ≡ (if contains rect x y then at_or others x y 0 else at_or pixels x y 0)) →
    (x y : ℕ) → x < pixels.width → y < pixels.height →
    at_or (record_of now (filled rect true known)) x y None
    ≡ (if contains rect x y then at_or (record_of others seen) x y None else at_or (record_of pixels known) x y None)
taken_from pixels now others known seen rect sound wide high width height wide_too high_too all each x y p q =
    let pn : x < now.width = rw width p in
    let qn : y < now.height = rw height q in
    let pk : x < known.width = rw wide p in
    let qk : y < known.height = rw high q in
    let po : x < others.width = rw wide_too p in
    let qo : y < others.height = rw high_too q in
    at-record_of now (filled rect true known) x y None pn qn
    ∙ (rw (
      at-filled rect true known x y false sound pk qk,
      at-record_of pixels known x y None p q,
      each x y p q,
      at-record_of others seen x y None po qo,
    )
    (by_taken (contains rect x y) (is_in known x y) (is_in seen x y) (at_or others x y 0) (at_or pixels x y 0)
    (λ e. known_in others seen x y (all x y e).0 po qo (all x y e).1)))
