-- Places that need no sending.
use Rattle.std.proofs.Common.{◌≡◌, ℕ, zero, suc, ◌+◌, ◌-◌, ◌*◌, ◌<◌, ◌≤◌, ◌&&◌, ◌||◌, Bool, true, false, not, List, []}
use Rattle.std.proofs.Common.{◌∷◌, Option, Some, None, if◌then◌else◌, refl, sym, arith, inl, inr, ◌⊎◌}
use Rattle.std.specs.Bool.{OnFalse}
use Rattle.std.proofs.lemmas.Bool.{cases_lt, both_ways}
use Rattle.std.proofs.lemmas.Bool.Decides.{nat_tests}
use Rattle.rfb_pixel.specs.declared.colour.Colour.{Colour}
use Rattle.rfb_pixel.specs.Format.{PixelFormat}
use Rattle.rfb_picture.specs.declared.rect.Rect.{Rect}
use Rattle.rfb_picture.specs.Rect.{contains}
use Rattle.rfb_picture.specs.Grid.{Grid, Holds, at_or, copied}
use Rattle.rfb_picture.specs.Area.{Places, asked_at, whole_at}
use Rattle.rfb_picture.proofs.GridLaws.{contains_true, contains_row, width-changed, height-changed}
use Rattle.rfb_picture.proofs.CopyLaws.{at-copied}
use Rattle.rfb_server.specs.declared.hint.Hint.{Hint}
use Rattle.rfb_server.specs.declared.session.Session.{Session}
use Rattle.rfb_server.specs.Request.{wanted_at, differs}
use Rattle.rfb_server.specs.Composition.{count_row, count_rows, count_in}
use Rattle.rfb_server.specs.declared.session.update.gains.Judged.{Judged}
use Rattle.rfb_server.specs.declared.session.update.quiet.Quiet.{Quiet}
use Rattle.rfb_server.specs.declared.claim.stale.Rows.{Rows}
use Rattle.rfb_server.specs.Claims.{is_stale}
use Rattle.rfb_server.specs.update.Needs.{AreQuiet, IsQuiet, is_quiet, IsPartOf, needs_of, HasBox}
use Rattle.rfb_server.specs.update.Sends.{IsKept, AppendsPixels}
use Rattle.rfb_server.specs.update.Gains.{IsJudged}
use Rattle.rfb_server.proofs.CountLemmas.{at_most}
use Rattle.rfb_server.proofs.SendsLemmas.{noted_at}

-- ---- all places counted

-- a row with a place that does not count has fewer that do
row_bound : (p : ℕ → ℕ → Bool) (x y w : ℕ) → count_row p x y w ≤ w
row_bound p x y zero = omega arith
row_bound p x y (suc w) = omega (arith, row_bound p x y w, at_most (p (x + w) y))

none_of : (b : Bool) (n : ℕ) → b ≡ false → n + (if b then 1 else 0) ≡ n
none_of true n e = absurd cc
none_of false n e = omega arith

short_row : (p : ℕ → ℕ → Bool) (x y w i : ℕ) → i < w → p (x + i) y ≡ false → count_row p x y w < w
short_row p x y zero i l e = absurd (omega arith)
short_row p x y (suc w) i l e =
    elim (cases_lt i w) [
      | inl less ↦ omega (arith, short_row p x y w i less e, at_most (p (x + w) y))
      | inr more ↦
          let same : i ≡ w = omega arith in
          let none : p (x + w) y ≡ false = rw same at e in
          omega (arith, row_bound p x y w, none_of (p (x + w) y) (count_row p x y w) none)
    ]

pub rows_bound : (p : ℕ → ℕ → Bool) (x y w h : ℕ) → count_rows p x y w h ≤ h * w
rows_bound p x y w zero = omega arith
rows_bound p x y w (suc h) =
    let split : suc h * w ≡ h * w + w = grind arith in
    omega (arith, split, rows_bound p x y w h, row_bound p x (y + h) w)

short_rows : (p : ℕ → ℕ → Bool) (x y w h i j : ℕ) → i < w → j < h → p (x + i) (y + j) ≡ false →
    count_rows p x y w h < h * w
short_rows p x y w zero i j l m e = absurd (omega arith)
short_rows p x y w (suc h) i j l m e =
    let split : suc h * w ≡ h * w + w = grind arith in
    elim (cases_lt j h) [
      | inl less ↦ omega (arith, split, short_rows p x y w h i j l less e, row_bound p x (y + h) w)
      | inr more ↦
          let same : j ≡ h = omega arith in
          let none : p (x + i) (y + h) ≡ false = rw same at e in
          omega (arith, split, short_row p x (y + h) w i l none, rows_bound p x y w h)
    ]

-- where as many count as there are, each does
pub each_counts : (p : ℕ → ℕ → Bool) (r : Rect) → count_in p r ≡ r.h * r.w → (x y : ℕ) →
    contains r x y ≡ true → p x y ≡ true
each_counts p r all x y c = by (p x y) refl
  where
    by : (b : Bool) → p x y ≡ b → b ≡ true
    by true e = refl
    by false e =
        let (a, b, c2, d) = contains_true r x y c in
        let column : r.x + (x - r.x) ≡ x = omega arith in
        let row : r.y + (y - r.y) ≡ y = omega arith in
        let none : p (r.x + (x - r.x)) (r.y + (y - r.y)) ≡ false = rw (column, row) e in
        absurd (omega (arith, all, short_rows p r.x r.y r.w r.h (x - r.x) (y - r.y) (omega arith) (omega arith) none))

-- where all count for one rule, and no more do than for another, all count for that one
all_count : (p q : ℕ → ℕ → Bool) (r : Rect) → count_in q r ≡ r.h * r.w →
    (count_in p r < count_in q r → ⊥) → count_in p r ≡ r.h * r.w
all_count p q r all no_more =
    elim (cases_lt (count_in p r) (count_in q r)) [
      | inl less ↦ absurd (no_more less)
      | inr most ↦ omega (arith, all, most, rows_bound p r.x r.y r.w r.h)
    ]

-- so each place counts, of rows where all do for that rule: for the other one, if these are all rows
pub rows_count : (p q : ℕ → ℕ → Bool) (r : Rect) (top : ℕ) (more : Bool) → top ≤ r.h →
    count_rows q r.x r.y r.w top ≡ top * r.w → OnFalse more (count_in p r < count_in q r → ⊥) →
    ((more ≡ false) × (r.h ≤ top)) ⊎ (more ≡ true) → (x y : ℕ) → contains (record r { h = top }) x y ≡ true →
    (if more then q x y else p x y) ≡ true
rows_count p q r top true within all no_more which x y here =
    each_counts q (record r { h = top }) all x y here
rows_count p q r top false within all no_more (inr is) x y here =
    absurd (both_ways false refl is)
rows_count p q r top false within all no_more (inl (is, last)) x y here =
    let same : top ≡ r.h = omega arith in
    each_counts p r (all_count p q r (rw same at all) no_more) x y (rw same at here)

-- ---- quiet places

quiet_by : (inside stale : Bool) → (inside && not stale) ≡ true → (inside ≡ true) × (stale ≡ false)
quiet_by true true e = absurd (both_ways false refl e)
quiet_by true false e = (refl, refl)
quiet_by false stale e = absurd (both_ways false refl e)

-- a quiet place lies in the rectangle, in a row that is not stale
pub quiet_place : (quiet : Quiet) (x y : ℕ) → is_quiet quiet x y ≡ true →
    (contains quiet.area x y ≡ true) × (is_stale quiet.stale y ≡ false)
quiet_place quiet x y e = quiet_by (contains quiet.area x y) (is_stale quiet.stale y) e

abbrev no_row : Rows
no_row = record { first = 0; end = 0 }

abbrev nowhere : Quiet
nowhere = record {
  area = record { x = 0; y = 0; w = 0; h = 0 };
  stale = record {
    runs = no_row ∷ no_row ∷ no_row ∷ no_row ∷ no_row ∷ no_row ∷ no_row ∷ no_row ∷ [];
  };
}

-- a rectangle without a place
pub quiet_nowhere : (screen : Grid Colour) (known : Grid (Option ℕ)) (area : Places) (form : PixelFormat) →
    AreQuiet screen known area form nowhere
quiet_nowhere screen known area form x y p q c =
    let (a, b, c2, d) = contains_true nowhere.area x y (quiet_place nowhere x y c).0 in
    absurd (omega (arith, c2, d))

-- what is known stays, and so does all else
pub quiet_kept : (screen : Grid Colour) (old new : Session) (r : Quiet) → IsKept old new → new.known ≡ old.known →
    IsQuiet screen old r → IsQuiet screen new r
quiet_kept screen old new r kept known quiet = rw (known, kept.area, kept.setting.format) quiet

settled_by : (asked whole before : Bool) (wanted : ℕ) → (asked && (whole || before)) ≡ false →
    (asked && (whole || false)) ≡ false
settled_by false whole before wanted e = refl
settled_by true false before wanted e = refl
settled_by true true before wanted e = e

same_pixel : (wanted : ℕ) → differs wanted (Some wanted) ≡ false
same_pixel wanted = grind (arith, nat_tests)

-- pixels that are sent make no place need sending
pub quiet_sent : (screen : Grid Colour) (old new : Session) (rect : Rect) (r : Quiet)
    (before after : List ℕ) → IsKept old new → AppendsPixels screen rect old new before after →
    IsQuiet screen old r → IsQuiet screen new r
quiet_sent screen old new rect r before after kept appends quiet x y p q c =
    let size = appends.sent.alike in
    let was : needs_of screen old x y ≡ false = quiet x y (rw size.columns p) (rw size.rows q) c in
    let is = noted_at screen old.format rect appends.sent.block old.known new.known x y
    appends.sent.packed appends.sent.noted p q in
    rw (kept.area, kept.setting.format, is) (by (contains rect x y) was)
  where
    by : (here : Bool) → needs_of screen old x y ≡ false →
        (asked_at old.area x y && (whole_at old.area x y || differs (wanted_at screen old.format x y)
        (if here then Some (wanted_at screen old.format x y) else at_or old.known x y None))) ≡ false
    by true was =
        rw (same_pixel (wanted_at screen old.format x y)) (settled_by (asked_at old.area x y) (whole_at old.area x y)
        (differs (wanted_at screen old.format x y) (at_or old.known x y None)) 0 was)
    by false was = was

right_is : (wanted : ℕ) (known : Option ℕ) → not (differs wanted known) ≡ true → differs wanted known ≡ false
right_is wanted known e = by (differs wanted known) e
  where
    by : (b : Bool) → not b ≡ true → b ≡ false
    by true e = sym e
    by false e = refl

idle_by : (asked : Bool) → (asked && (false || false)) ≡ false
idle_by true = refl
idle_by false = refl

-- so are places that a copy has left right
pub quiet_copied : (screen : Grid Colour) (old : Session) (now : Grid (Option ℕ)) (hint : Hint) (judged : Judged) →
    Holds old.known (record hint.to { x = hint.sx; y = hint.sy }) → now ≡ copied hint.to hint.sx hint.sy old.known →
    judged.gain ≡ true → IsJudged screen old hint judged → AreQuiet screen now old.area old.format judged.right
quiet_copied screen old now hint judged held known gain right =
    let wide : (copied hint.to hint.sx hint.sy old.known).width ≡ old.known.width = width-changed _ old.known in
    let high : (copied hint.to hint.sx hint.sy old.known).height ≡ old.known.height = height-changed _ old.known in
    rw known (λ x y p q c. quiet x y (rw wide at p) (rw high at q) c)
  where
    quiet : (x y : ℕ) → x < old.known.width → y < old.known.height → is_quiet judged.right x y ≡ true →
        (asked_at old.area x y && (whole_at old.area x y
        || differs (wanted_at screen old.format x y) (at_or (copied hint.to hint.sx hint.sy old.known) x y None)))
        ≡ false
    quiet x y p q c =
        let (inside, part, after) = right x y c in
        let source = at_or old.known (hint.sx + (x - hint.to.x)) (hint.sy + (y - hint.to.y)) None in
        let same : differs (wanted_at screen old.format x y) source ≡ false =
        right_is (wanted_at screen old.format x y) source (rw gain at after) in
        let read = at-copied hint.to hint.sx hint.sy old.known x y None old.alike.known_whole held p q in
        rw (part, read, inside, same) (idle_by (asked_at old.area x y))

-- and those that are right as they are
pub quiet_left : (screen : Grid Colour) (old : Session) (hint : Hint) (judged : Judged) →
    judged.gain ≡ false → IsJudged screen old hint judged → IsQuiet screen old judged.right
quiet_left screen old hint judged useless right x y p q c =
    let (inside, part, before) = right x y c in
    let (a, b, c2, d) = contains_true hint.to x y inside in
    let column : hint.to.x + (x - hint.to.x) ≡ x = omega (arith, a) in
    let row : hint.to.y + (y - hint.to.y) ≡ y = omega (arith, c2) in
    let same : differs (wanted_at screen old.format x y) (at_or old.known x y None) ≡ false =
    right_is (wanted_at screen old.format x y) (at_or old.known x y None) (rw (useless, column, row) at before) in
    rw (part, same) (idle_by (asked_at old.area x y))

-- the rows of a cell that have other places have all that needs sending of it
pub quiet_rows : (screen : Grid Colour) (session : Session) (cell rows : Rect) (quiet : Quiet) (found : Option Rect) →
    Holds session.known cell → IsPartOf cell rows →
    ((x y : ℕ) → contains cell x y ≡ true → (contains rows x y ≡ true) ⊎ (is_quiet quiet x y ≡ true)) →
    IsQuiet screen session quiet → HasBox (needs_of screen session) rows found →
    HasBox (needs_of screen session) cell found
quiet_rows screen session cell rows quiet None held part others none clear = λ x y a b c d.
    elim (others x y (contains_row cell x y a b c d)) [
      | inl inside ↦
          let (e, f, g, h) = contains_true rows x y inside in
          clear x y e f g h
      | inr silent ↦ none x y (omega (arith, held.0, b)) (omega (arith, held.1, d)) silent
    ]
quiet_rows screen session cell rows quiet (Some r) held part others none box = record {
  within = (
    omega (arith, box.within.0, part.left),
    omega (arith, box.within.1, part.left, part.wide),
    omega (arith, box.within.2, part.top),
    omega (arith, box.within.3, part.bottom),
  );
  holds = λ x y inside needs. elim (others x y inside) [
    | inl there ↦ box.holds x y there needs
    | inr silent ↦
        let (a, b, c, d) = contains_true cell x y inside in
        absurd (both_ways (needs_of screen session x y)
        (none x y (omega (arith, held.0, b)) (omega (arith, held.1, d)) silent) needs)
  ];
  tight = box.tight;
}
