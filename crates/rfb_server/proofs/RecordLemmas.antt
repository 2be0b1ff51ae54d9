-- A record by its pixels and its set of known places.
use Rattle.std.proofs.Common.{◌≡◌, ℕ, zero, suc, replicate, ◌<◌, ◌≤◌, ◌+◌, ◌-◌}
use Rattle.std.proofs.Common.{◌*◌, ◌||◌, Bool, true}
use Rattle.std.proofs.Common.{false, Option, Some, None}
use Rattle.std.proofs.Common.{if◌then◌else◌, List, length, ap, sym, ◌∙◌, refl, arith, zero-add}
use Rattle.std.proofs.lemmas.Bool.Decides.{nat_tests}
use Rattle.std.specs.Prelude.{slice_index_or}
use Rattle.std.proofs.lemmas.List.{get_or_default}
use Rattle.rfb_picture.specs.declared.rect.Rect.{Rect}
use Rattle.rfb_picture.specs.Rect.{contains}
use Rattle.rfb_picture.specs.Grid.{Grid, IsGrid, Holds, at_or, uniform, filled, copied, row_of, with_row}
use Rattle.rfb_codec.specs.RectData.{moved_to}
use Rattle.rfb_picture.specs.Box.{is_in}
use Rattle.rfb_picture.proofs.GridLaws.{at-changed, width-changed, height-changed, whole-changed, at-uniform}
use Rattle.rfb_picture.proofs.GridLaws.{width-uniform, height-uniform, whole-uniform, same_grid, place_below}
use Rattle.rfb_picture.proofs.GridLaws.{contains_more, contains_true, at-with_row, at-filled, slice_index_or-row_of}
use Rattle.rfb_codec.specs.Effect.{IsRecorded}
use Rattle.rfb_picture.specs.Area.{Places, IsArea, added}
use Rattle.rfb_picture.specs.Places.{AllMarked}
use Rattle.rfb_picture.proofs.AreaLaws.{area-added}
use Rattle.rfb_server.specs.Record.{IsRecord, AreKnown, ShowsKnown, TellsKnown, is_known, forgotten, record_of}

-- the size of a record is that of its pixels
pub width-record_of : (pixels : Grid ℕ) (known : Grid Bool) → (record_of pixels known).width ≡ pixels.width
unfolding record_of
width-record_of pixels known = width-changed _ (forgotten pixels) ∙ width-uniform pixels.width pixels.height None

pub height-record_of : (pixels : Grid ℕ) (known : Grid Bool) → (record_of pixels known).height ≡ pixels.height
unfolding record_of
height-record_of pixels known = height-changed _ (forgotten pixels) ∙ height-uniform pixels.width pixels.height None

pub whole-record_of : (pixels : Grid ℕ) (known : Grid Bool) → IsGrid (record_of pixels known)
unfolding record_of
whole-record_of pixels known = whole-changed _ (forgotten pixels) (whole-uniform pixels.width pixels.height None)

one_value : (n i : ℕ) (x : Option ℕ) → slice_index_or (replicate n x) i x ≡ x
one_value zero i x = refl
one_value (suc n) zero x = refl
one_value (suc n) (suc i) x = one_value n i x

-- nothing is known of the first place of what was forgotten
pub none_forgotten : (known : Grid (Option ℕ)) → at_or (forgotten known) 0 0 None ≡ None
unfolding uniform
none_forgotten known = one_value (known.height * known.width) (0 * known.width + 0) None

-- what is told of a record's size by its name alone
pub ruleset record_sizes = (width-record_of, height-record_of, whole-record_of)

-- what stands at a place
pub at-record_of : (pixels : Grid ℕ) (known : Grid Bool) (x y : ℕ) (d : Option ℕ) →
    x < pixels.width → y < pixels.height →
    at_or (record_of pixels known) x y d ≡ (if is_in known x y then Some (at_or pixels x y 0) else None)
unfolding record_of
at-record_of pixels known x y d p q =
    at-changed _ (forgotten pixels) x y d (whole-uniform pixels.width pixels.height None)
    (rw width-uniform p) (rw height-uniform q)

some_is : (known : Bool) (value pixel : ℕ) → (if known then Some value else None) ≡ Some pixel → value ≡ pixel
some_is true value pixel e = cc
some_is false value pixel e = absurd cc

-- its pixels are those that are known
pub pixels_shown : (pixels : Grid ℕ) (known : Grid Bool) → ShowsKnown (record_of pixels known) pixels
pixels_shown pixels known = λ x y pixel p q e.
    some_is (is_in known x y) (at_or pixels x y 0) pixel
    (sym (at-record_of pixels known x y None (rw width-record_of at p) (rw height-record_of at q)) ∙ e)

known_only : (known : Bool) (value pixel : ℕ) → (if known then Some value else None) ≡ Some pixel →
    known ≡ true
known_only true value pixel e = refl
known_only false value pixel e = absurd cc

-- where a pixel is known the place is in the set
pub known_in : (pixels : Grid ℕ) (known : Grid Bool) (x y pixel : ℕ) → x < pixels.width → y < pixels.height →
    at_or (record_of pixels known) x y None ≡ Some pixel → is_in known x y ≡ true
known_in pixels known x y pixel p q e =
    known_only (is_in known x y) (at_or pixels x y 0) pixel (sym (at-record_of pixels known x y None p q) ∙ e)

known_is : (known : Bool) (value : ℕ) → known ≡ is_known (if known then Some value else None)
known_is true value = refl
known_is false value = refl

-- and its set is that of the known places
pub known_told : (pixels : Grid ℕ) (area : Places) → TellsKnown (record_of pixels area.asked) area
known_told pixels area = λ x y p q.
    rw (at-record_of pixels area.asked x y None (rw width-record_of at p) (rw height-record_of at q))
    (known_is (is_in area.asked x y) (at_or pixels x y 0))

-- with no known place nothing is known
pub record-none : (pixels : Grid ℕ) (w h : ℕ) →
    pixels.width ≡ w → pixels.height ≡ h →
    record_of pixels (uniform w h false) ≡ uniform w h None
record-none pixels w h e f =
    same_grid (record_of pixels (uniform w h false)) (uniform w h None)
    (whole-record_of pixels _) (whole-uniform w h None)
    (width-record_of pixels _ ∙ (e ∙ sym (width-uniform w h None)))
    (height-record_of pixels _ ∙ (f ∙ sym (height-uniform w h None)))
    (λ x y d p q.
    let p' = rw width-record_of at p in
    let q' = rw height-record_of at q in
    let pw = rw e at p' in
    let qh = rw f at q' in
    at-record_of pixels (uniform w h false) x y d p' q'
    ∙ (rw (at-uniform w h false x y false pw qh) (sym (at-uniform w h None x y d pw qh))))

-- so a record whose set is emptied is forgotten
pub record-forgotten : (pixels : Grid ℕ) (known : Grid Bool) →
    known.width ≡ pixels.width → known.height ≡ pixels.height →
    record_of pixels (uniform known.width known.height false) ≡ forgotten (record_of pixels known)
record-forgotten pixels known e f =
    rw (width-record_of pixels known, height-record_of pixels known, e, f)
    (record-none pixels pixels.width pixels.height refl refl)

-- what stands at a place of a grid does not depend on the value for places that it has not
at_any : {A : Type 0} (g : Grid A) (x y : ℕ) (d e : A) → IsGrid g → x < g.width → y < g.height →
    at_or g x y d ≡ at_or g x y e
at_any g x y d e whole p q =
    let below = place_below g.width g.height x y p q in
    get_or_default g.places (y * g.width + x) d e (rw whole below)

-- so grids of one size with the same at each place are the same
pub same_values : {A : Type 0} (v : A) (g k : Grid A) → IsGrid g → IsGrid k → g.width ≡ k.width →
    g.height ≡ k.height → ((x y : ℕ) → x < g.width → y < g.height → at_or g x y v ≡ at_or k x y v) →
    g ≡ k
same_values v g k whole whole_too wide high same =
    same_grid g k whole whole_too wide high (λ x y d p q.
    at_any g x y d v whole p q
    ∙ (same x y p q ∙ at_any k x y v d whole_too (rw (← wide) p) (rw (← high) q)))

-- a record whose pixels keep their size, and of which more places are known, is one still
pub still_record : (pixels now : Grid ℕ) (known learned : Places) (rect : Rect) → IsRecord pixels known →
    IsGrid now →
    now.width ≡ pixels.width → now.height ≡ pixels.height → learned ≡ added rect false known →
    learned.asked.width ≡ known.asked.width → learned.asked.height ≡ known.asked.height → IsRecord now learned
still_record pixels now known learned rect was whole width height more wide high = record {
  whole = whole;
  area = rw more (area-added rect false known was.area);
  wide = wide ∙ (was.wide ∙ sym width);
  high = high ∙ (was.high ∙ sym height);
}

-- ---- pixels put over a rectangle, row by row

-- `rows` rows of the rectangle have these pixels, and the other places are as they were
pub record IsPut (rect : Rect) (rows : ℕ) (pixel : ℕ → ℕ → ℕ) (first now : Grid ℕ) : Type 0 where
  pub whole : IsGrid now
  pub width : now.width ≡ first.width
  pub height : now.height ≡ first.height
  pub each : (x y : ℕ) → x < first.width → y < first.height →
      at_or now x y 0 ≡ (if contains (record rect { h = rows }) x y then pixel x y else at_or first x y 0)

pub none_in_no_rows : (rect : Rect) (x y : ℕ) → contains (record rect { h = 0 }) x y ≡ false
none_in_no_rows rect x y = grind (arith, nat_tests)

pub put_start : (rect : Rect) (pixel : ℕ → ℕ → ℕ) (first : Grid ℕ) → IsGrid first →
    IsPut rect 0 pixel first first
put_start rect pixel first whole =
    record { whole = whole; width = refl; height = refl; each = λ x y p q. rw (none_in_no_rows rect x y) refl }

-- what a place of the next row is
pub in_next_row : (rect : Rect) (n x y : ℕ) →
    contains (record { x = rect.x; y = rect.y + n; w = rect.w; h = 1 }) x y ≡ true →
    (rect.x ≤ x) × (x - rect.x < rect.w) × (y ≡ rect.y + n)
in_next_row rect n x y e =
    let h = contains_true (record { x = rect.x; y = rect.y + n; w = rect.w; h = 1 }) x y e in
    (h.0, omega arith, omega arith)

or_true : (b : Bool) → (b || true) ≡ true
or_true true = refl
or_true false = refl

or_false : (b : Bool) → (b || false) ≡ b
or_false true = refl
or_false false = refl

-- these are the pixels of row `n` of the rectangle
abbrev pub IsRowOf : Rect → (ℕ → ℕ → ℕ) → ℕ → List ℕ → Type 0
IsRowOf rect pixel n row = (x d : ℕ) → rect.x ≤ x → x - rect.x < rect.w →
    slice_index_or row (x - rect.x) d ≡ pixel x (rect.y + n)

-- one row more
pub put_more : (rect : Rect) (n : ℕ) (pixel : ℕ → ℕ → ℕ) (first now : Grid ℕ) (row : List ℕ) →
    length row ≡ rect.w → IsRowOf rect pixel n row →
    IsPut rect n pixel first now → IsPut rect (n + 1) pixel first (with_row rect.x (rect.y + n) row now)
put_more rect n pixel first now row long is put =
    record {
      whole = whole-changed _ now put.whole;
      width = width-changed _ now ∙ put.width;
      height = height-changed _ now ∙ put.height;
      each = λ x y p q.
          let p' : x < now.width = rw (put.width) p in
          let q' : y < now.height = rw (put.height) q in
          let written = at-with_row rect.x (rect.y + n) row now x y 0 put.whole p' q' in
          written ∙ by_row x y (contains (record { x = rect.x; y = rect.y + n; w = length row; h = 1 }) x y)
          refl (put.each x y p q);
    }
  where
    by_row : (x y : ℕ) (here : Bool) →
        contains (record { x = rect.x; y = rect.y + n; w = length row; h = 1 }) x y ≡ here →
        at_or now x y 0 ≡ (if contains (record rect { h = n }) x y then pixel x y else at_or first x y 0) →
        (if here then slice_index_or row (x - rect.x) (at_or now x y 0) else at_or now x y 0)
        ≡ (if contains (record rect { h = n + 1 }) x y then pixel x y else at_or first x y 0)
    by_row x y true e before =
        let there : contains (record { x = rect.x; y = rect.y + n; w = rect.w; h = 1 }) x y ≡ true =
        rw (← long) e in
        let place = in_next_row rect n x y there in
        let inside : contains (record rect { h = n + 1 }) x y ≡ true =
        rw (contains_more rect n x y, there) (or_true (contains (record rect { h = n }) x y)) in
        let value = is x (at_or now x y 0) place.0 place.1 in
        rw inside (value ∙ ap (λ (k : ℕ). pixel x k) (sym place.2))
    by_row x y false e before =
        let there : contains (record { x = rect.x; y = rect.y + n; w = rect.w; h = 1 }) x y ≡ false =
        rw (← long) e in
        let same : contains (record rect { h = n + 1 }) x y ≡ contains (record rect { h = n }) x y =
        contains_more rect n x y ∙ (rw there (or_false (contains (record rect { h = n }) x y))) in
        rw same before

-- the pixels of a block that is put there
abbrev pub of_block : Rect → Grid ℕ → ℕ → ℕ → ℕ
of_block rect block x y = at_or block (x - rect.x) (y - rect.y) 0

pub block_row : (rect : Rect) (n : ℕ) (block : Grid ℕ) (row : List ℕ) → IsGrid block →
    block.width ≡ rect.w → n < block.height → row ≡ row_of block 0 n block.width →
    IsRowOf rect (of_block rect block) n row
block_row rect n block row sound wide below is = λ x d left right.
    let shown : x - rect.x < block.width = rw wide right in
    let same : rect.y + n - rect.y ≡ n = omega arith in
    rw (is, same) (slice_index_or-row_of block 0 n block.width (x - rect.x) d shown
    ∙ (ap (λ (k : ℕ). at_or block k n d) (zero-add (x - rect.x))
    ∙ at_any block (x - rect.x) n d 0 sound shown below))

-- a row of another picture, of the same columns
pub other_row : (rect : Rect) (n : ℕ) (other : Grid ℕ) (row : List ℕ) → IsGrid other →
    rect.x + rect.w ≤ other.width → rect.y + n < other.height →
    row ≡ row_of other rect.x (rect.y + n) rect.w →
    IsRowOf rect (λ x y. at_or other x y 0) n row
other_row rect n other row sound wide below is = λ x d left right.
    let column : rect.x + (x - rect.x) ≡ x = omega (arith, left) in
    let within : x < other.width = omega (arith, left, right, wide) in
    rw is (slice_index_or-row_of other rect.x (rect.y + n) rect.w (x - rect.x) d right
    ∙ (ap (λ (k : ℕ). at_or other k (rect.y + n) d) column
    ∙ at_any other x (rect.y + n) d 0 sound within below))

-- the record whose pixels and set of known places have taken a block
pub recorded_of : (pixels now block : Grid ℕ) (known : Grid Bool) (rect : Rect) →
    IsGrid known → known.width ≡ pixels.width → known.height ≡ pixels.height →
    now.width ≡ pixels.width → now.height ≡ pixels.height →
    ((x y : ℕ) → x < pixels.width → y < pixels.height →
    at_or now x y 0 ≡ (if contains rect x y then at_or block (x - rect.x) (y - rect.y) 0 else at_or pixels x y 0)) →
    IsRecorded rect block (record_of pixels known) (record_of now (filled rect true known))
recorded_of pixels now block known rect sound wide high width height each x y p q =
    let pn = rw width-record_of at p in
    let qn = rw height-record_of at q in
    let pp : x < pixels.width = rw (← width) pn in
    let qq : y < pixels.height = rw (← height) qn in
    let pk : x < known.width = rw wide pp in
    let qk : y < known.height = rw high qq in
    at-record_of now (filled rect true known) x y None pn qn
    ∙ (rw (at-filled rect true known x y false sound pk qk, at-record_of pixels known x y None pp qq, each x y pp qq)
    (by_place (contains rect x y) (is_in known x y) (at_or block (x - rect.x) (y - rect.y) 0) (at_or pixels x y 0)))
  where
    by_place : (inside old : Bool) (fresh before : ℕ) →
        (if (if inside then true else old) then Some (if inside then fresh else before) else None)
        ≡ (if inside then Some fresh else (if old then Some before else None))
    by_place true old fresh before = refl
    by_place false true fresh before = refl
    by_place false false fresh before = refl

-- ---- a rectangle copied

known_there : (b : Bool) (v w : ℕ) → (if b then Some v else None) ≡ Some w → b ≡ true
known_there true v w h = refl
known_there false v w h = absurd cc

in_source : (to : Rect) (sx sy x y : ℕ) → to.x ≤ x → x < to.x + to.w → to.y ≤ y → y < to.y + to.h →
    contains (moved_to sx sy to) (sx + (x - to.x)) (sy + (y - to.y)) ≡ true
in_source to sx sy x y a b c d = grind (arith, nat_tests)

-- what is known of the source's places is known of the rectangle's from then on
pub record_copied : (pixels : Grid ℕ) (known : Grid Bool) (to : Rect) (sx sy : ℕ) →
    IsGrid pixels → IsGrid known → known.width ≡ pixels.width → known.height ≡ pixels.height →
    Holds pixels (moved_to sx sy to) → AreKnown (record_of pixels known) (moved_to sx sy to) →
    record_of (copied to sx sy pixels) (filled to true known) ≡ copied to sx sy (record_of pixels known)
record_copied pixels known to sx sy whole sound wide high held all =
    same_grid (record_of (copied to sx sy pixels) (filled to true known)) (copied to sx sy (record_of pixels known))
    (whole-record_of _ _) (whole-changed _ _ (whole-record_of pixels known))
    (left_wide ∙ sym right_wide) (left_high ∙ sym right_high) each
  where
    left_wide : (record_of (copied to sx sy pixels) (filled to true known)).width ≡ pixels.width
    left_wide = width-record_of _ _ ∙ width-changed _ pixels

    left_high : (record_of (copied to sx sy pixels) (filled to true known)).height ≡ pixels.height
    left_high = height-record_of _ _ ∙ height-changed _ pixels

    right_wide : (copied to sx sy (record_of pixels known)).width ≡ pixels.width
    right_wide = width-changed _ (record_of pixels known) ∙ width-record_of pixels known

    right_high : (copied to sx sy (record_of pixels known)).height ≡ pixels.height
    right_high = height-changed _ (record_of pixels known) ∙ height-record_of pixels known

    -- the source of a place of the rectangle
    source_known : (x y : ℕ) → contains to x y ≡ true →
        (sx + (x - to.x) < pixels.width) × (sy + (y - to.y) < pixels.height)
        × (is_in known (sx + (x - to.x)) (sy + (y - to.y)) ≡ true)
    source_known x y e =
        let h = contains_true to x y e in
        let p : sx + (x - to.x) < pixels.width = omega (arith, held.0, h.0, h.1) in
        let q : sy + (y - to.y) < pixels.height = omega (arith, held.1, h.2, h.3) in
        let there = all (sx + (x - to.x)) (sy + (y - to.y)) (in_source to sx sy x y h.0 h.1 h.2 h.3) in (
          p,
          q,
          known_there (is_in known (sx + (x - to.x)) (sy + (y - to.y)))
              (at_or pixels (sx + (x - to.x)) (sy + (y - to.y)) 0) there.0
              (sym (at-record_of pixels known (sx + (x - to.x)) (sy + (y - to.y)) None p q) ∙ there.1),
        )

    by_place : (x y : ℕ) (d : Option ℕ) (inside : Bool) → contains to x y ≡ inside →
        x < pixels.width → y < pixels.height →
        (if (if inside then true else is_in known x y) then Some (if inside then at_or pixels (sx + (x - to.x))
        (sy + (y - to.y)) (at_or pixels x y 0) else at_or pixels x y 0) else None)
        ≡ (if inside then at_or (record_of pixels known) (sx + (x - to.x)) (sy + (y - to.y))
        (at_or (record_of pixels known) x y d) else at_or (record_of pixels known) x y d)
    by_place x y d true e pp qq =
        let s = source_known x y e in
        sym (at-record_of pixels known (sx + (x - to.x)) (sy + (y - to.y))
        (at_or (record_of pixels known) x y d) s.0 s.1
        ∙ (rw (s.2) (ap (λ (v : ℕ). Some v)
        (at_any pixels (sx + (x - to.x)) (sy + (y - to.y)) 0 (at_or pixels x y 0) whole s.0 s.1))))
    by_place x y d false e pp qq = sym (at-record_of pixels known x y d pp qq)

    each : (x y : ℕ) (d : Option ℕ) → x < (record_of (copied to sx sy pixels) (filled to true known)).width →
        y < (record_of (copied to sx sy pixels) (filled to true known)).height →
        at_or (record_of (copied to sx sy pixels) (filled to true known)) x y d
        ≡ at_or (copied to sx sy (record_of pixels known)) x y d
    each x y d p q =
        let pp : x < pixels.width = rw (← left_wide) p in
        let qq : y < pixels.height = rw (← left_high) q in
        let pc : x < (copied to sx sy pixels).width = rw (width-changed (λ i j old. if contains to i j
        then at_or pixels (sx + (i - to.x)) (sy + (j - to.y)) old else old) pixels) pp in
        let qc : y < (copied to sx sy pixels).height = rw (height-changed (λ i j old. if contains to i j
        then at_or pixels (sx + (i - to.x)) (sy + (j - to.y)) old else old) pixels) qq in
        let pk : x < known.width = rw wide pp in
        let qk : y < known.height = rw high qq in
        let pr : x < (record_of pixels known).width = rw (width-record_of pixels known) pp in
        let qr : y < (record_of pixels known).height = rw (height-record_of pixels known) qq in
        let left = at-record_of (copied to sx sy pixels) (filled to true known) x y d pc qc in
        let now = at-filled to true known x y false sound pk qk in
        let pixel = at-changed (λ i j old. if contains to i j then at_or pixels (sx + (i - to.x)) (sy + (j - to.y)) old
        else old) pixels x y 0 whole pp qq in
        let right = at-changed (λ i j old. if contains to i j then at_or (record_of pixels known) (sx + (i - to.x))
        (sy + (j - to.y)) old else old) (record_of pixels known) x y d (whole-record_of pixels known) pr qr in
        left ∙ (rw (now, pixel) (by_place x y d (contains to x y) refl pp qq) ∙ sym right)

-- ---- places that are known already

filled_already : (g : Grid Bool) (rect : Rect) → IsGrid g → AllMarked (is_in g) rect → g ≡ filled rect true g
filled_already g rect whole all =
    same_grid g (filled rect true g) whole (whole-changed _ g whole)
    (sym (width-changed _ g)) (sym (height-changed _ g))
    (λ x y d p q. sym (at-filled rect true g x y d whole p q ∙ by_place x y d p q (contains rect x y) refl))
  where
    by_place : (x y : ℕ) (d : Bool) → x < g.width → y < g.height → (inside : Bool) →
        contains rect x y ≡ inside →
        (if inside then true else at_or g x y d) ≡ at_or g x y d
    by_place x y d p q true e =
        let below : y * g.width + x < length g.places = rw whole (place_below g.width g.height x y p q) in
        sym (get_or_default g.places (y * g.width + x) d false below ∙ all x y e)
    by_place x y d p q false e = refl

pub added_already : (area : Places) (rect : Rect) → IsArea area → AllMarked (is_in area.asked) rect →
    area ≡ added rect false area
added_already area rect sound all =
    ap (λ (g : Grid Bool). record { asked = g; whole = area.whole }) (filled_already area.asked rect sound.asks all)
