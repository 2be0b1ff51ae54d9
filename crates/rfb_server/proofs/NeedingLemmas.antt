-- Places that need sending are marked; and the least rectangle of them, row by row.
use Rattle.std.proofs.Common.{◌≡◌, ℕ, ◌<◌, ◌≤◌, ◌+◌, ◌-◌, ◌&&◌, ◌||◌, ◌==◌, not, Bool, true, false, Option, Some, None}
use Rattle.std.proofs.Common.{refl, arith, inl, inr, ◌⊎◌, subst}
use Rattle.std.proofs.lemmas.Bool.{cases_lt, cases_eq, both_ways}
use Rattle.std.proofs.lemmas.Bool.Decides.{nat_tests}
use Rattle.rfb_pixel.specs.declared.colour.Colour.{Colour}
use Rattle.rfb_picture.specs.declared.rect.Rect.{Rect}
use Rattle.rfb_picture.specs.Rect.{contains}
use Rattle.rfb_picture.specs.Grid.{Grid, Holds}
use Rattle.rfb_picture.specs.Box.{is_in, IsClear, IsBox}
use Rattle.rfb_picture.specs.Area.{asked_at}
use Rattle.rfb_picture.proofs.GridLaws.{contains_true, contains_row}
use Rattle.rfb_server.specs.declared.session.Session.{Session}
use Rattle.rfb_server.specs.Request.{wanted_at, differs}
use Rattle.rfb_server.specs.declared.session.update.needs.Columns.{Columns}
use Rattle.rfb_server.specs.update.Needs.{IsFirst, IsEnd, HasBox, HasInRow, IsLastOf, SpansRows, needs_of, rows_above}
use Rattle.rfb_server.specs.KnownScreen.{Follows}
use Rattle.rfb_server.specs.Record.{is_known}

-- ---- marks

-- what is known to have the pixel does not differ from it
pub differs_not : (pixel : ℕ) → differs pixel (Some pixel) ≡ false
differs_not pixel = grind (arith, nat_tests)

and_false : (a b : Bool) → b ≡ false → (a && b) ≡ false
and_false true b e = e
and_false false b e = refl

-- a place that is not marked does not need sending
pub unmarked_quiet : (screen : Grid Colour) (session : Session) (x y : ℕ) → Follows screen session →
    x < session.known.width → y < session.known.height →
    is_in session.marks x y ≡ false → needs_of screen session x y ≡ false
unmarked_quiet screen session x y about p q e =
    let p' : x < session.marks.width = rw (session.alike.marks_wide) p in
    let q' : y < session.marks.height = rw (session.alike.marks_high) q in
    and_false (asked_at session.area x y) _
    (rw (about.caught_up.not_whole x y p' q' e, about.caught_up.right x y p' q' e)
    (differs_not (wanted_at screen session.format x y)))

marked_by : (mark need : Bool) → (mark ≡ false → need ≡ false) → need ≡ true → mark ≡ true
marked_by true need quiet e = refl
marked_by false need quiet e = absurd (both_ways need (quiet refl) e)

-- so one that does is marked
pub needed_marked : (screen : Grid Colour) (session : Session) (x y : ℕ) → Follows screen session →
    x < session.known.width → y < session.known.height →
    needs_of screen session x y ≡ true → is_in session.marks x y ≡ true
needed_marked screen session x y about p q =
    marked_by (is_in session.marks x y) (needs_of screen session x y) (unmarked_quiet screen session x y about p q)

-- ---- a row more

-- nothing was looked at yet
pub no_rows : (p : ℕ → ℕ → Bool) (zone : Rect) → HasBox p (rows_above zone zone.y) None
no_rows p zone = λ x y a b c d. absurd (omega arith)

-- and all rows were
pub all_rows : (p : ℕ → ℕ → Bool) (zone : Rect) (y : ℕ) (found : Option Rect) → y ≡ zone.y + zone.h →
    HasBox p (rows_above zone y) found → HasBox p zone found
all_rows p zone y found e box =
    let same : y - zone.y ≡ zone.h = omega arith in
    rw same at box

-- no row up to this one has a marked place
pub row_clear : (p : ℕ → ℕ → Bool) (zone : Rect) (y : ℕ) → zone.y ≤ y →
    HasBox p (rows_above zone y) None → IsFirst p y zone.x (zone.x + zone.w) (zone.x + zone.w) →
    HasBox p (rows_above zone (y + 1)) None
row_clear p zone y order above first = λ x j a b c d.
    elim (cases_eq j y) [
      | inl e ↦ rw e (first.none x a b)
      | inr other ↦ above x j a b c (omega arith)
    ]

move_column : (p : ℕ → ℕ → Bool) (box : Rect) (from to : ℕ) → from ≡ to →
    ((j : ℕ) × (contains box from j ≡ true) × (p from j ≡ true)) →
    (j : ℕ) × (contains box to j ≡ true) × (p to j ≡ true)
move_column p box from to e t = subst (λ (k : ℕ). (j : ℕ) × (contains box k j ≡ true) × (p k j ≡ true)) e t

move_row : (p : ℕ → ℕ → Bool) (box : Rect) (from to : ℕ) → from ≡ to →
    ((i : ℕ) × (contains box i from ≡ true) × (p i from ≡ true)) →
    (i : ℕ) × (contains box i to ≡ true) × (p i to ≡ true)
move_row p box from to e t = subst (λ (k : ℕ). (i : ℕ) × (contains box i k ≡ true) × (p i k ≡ true)) e t

-- ---- from the first row to the last

-- row y of the zone has a marked place where its first one is before the end
pub first_in_row : (p : ℕ → ℕ → Bool) (zone : Rect) (y first : ℕ) → first < zone.x + zone.w →
    IsFirst p y zone.x (zone.x + zone.w) first → HasInRow p zone y
first_in_row p zone y first some is = (first, is.order.0, some, is.here some)

-- the columns of one row
pub row_spans : (p : ℕ → ℕ → Bool) (zone : Rect) (y first end : ℕ) → first < zone.x + zone.w →
    IsFirst p y zone.x (zone.x + zone.w) first → IsEnd p y (first + 1) (zone.x + zone.w) end →
    SpansRows p zone y y (record { first = first; end = end })
row_spans p zone y first end some is until = record {
  order = (is.order.0, omega (arith, until.order), until.order.1);
  left = λ x j a b d e. let same : j ≡ y = omega arith in rw same (is.none x a b);
  right = λ x j a b d e. let same : j ≡ y = omega arith in rw same (until.none x a b);
  first = (y, omega arith, omega arith, is.here some);
  last = (y, omega arith, omega arith, by_end (cases_lt (first + 1) end));
}
  where
    by_end : (first + 1 < end) ⊎ (end ≤ first + 1) → p (end - 1) y ≡ true
    by_end (inl more) = until.here more
    by_end (inr less) = let same : end - 1 ≡ first = omega (arith, until.order) in rw same (is.here some)

-- the columns of row `top`, and of the rows below row y down to row `bottom`
pub record IsWide (p : ℕ → ℕ → Bool) (zone : Rect) (top bottom y : ℕ) (columns : Columns) : Type 0 where
  pub order : (zone.x ≤ columns.first) × (columns.first < columns.end) × (columns.end ≤ zone.x + zone.w)
  pub row : (top ≤ y) × (y ≤ bottom)
  pub top_left : IsClear p zone.x columns.first top (top + 1)
  pub top_right : IsClear p columns.end (zone.x + zone.w) top (top + 1)
  pub left : IsClear p zone.x columns.first (y + 1) (bottom + 1)
  pub right : IsClear p columns.end (zone.x + zone.w) (y + 1) (bottom + 1)
  pub first : (j : ℕ) × (top ≤ j) × (j ≤ bottom) × (p columns.first j ≡ true)
  pub last : (j : ℕ) × (top ≤ j) × (j ≤ bottom) × (p (columns.end - 1) j ≡ true)

pub wide_top : (p : ℕ → ℕ → Bool) (zone : Rect) (top bottom : ℕ) (columns : Columns) → top ≤ bottom →
    SpansRows p zone top top columns → IsWide p zone top bottom bottom columns
wide_top p zone top bottom columns order spans = record {
  order = spans.order;
  row = (order, omega arith);
  top_left = spans.left;
  top_right = spans.right;
  left = λ x j a b d e. absurd (omega arith);
  right = λ x j a b d e. absurd (omega arith);
  first = let (j, a, b, m) = spans.first in (j, a, omega arith, m);
  last = let (j, a, b, m) = spans.last in (j, a, omega arith, m);
}

pub wide_more : (p : ℕ → ℕ → Bool) (zone : Rect) (top bottom y first end : ℕ) (columns : Columns) → top < y →
    IsWide p zone top bottom y columns → IsFirst p y zone.x columns.first first →
    IsEnd p y columns.end (zone.x + zone.w) end →
    IsWide p zone top bottom (y - 1) (record { first = first; end = end })
wide_more p zone top bottom y first end columns order wide is until = record {
  order = (is.order.0, omega (arith, is.order, until.order, wide.order), until.order.1);
  row = (omega arith, omega (arith, wide.row));
  top_left = λ x j a b d e. wide.top_left x j a (omega (arith, is.order)) d e;
  top_right = λ x j a b d e. wide.top_right x j (omega (arith, until.order)) b d e;
  left = λ x j a b d e. elim (cases_eq j y) [
    | inl same ↦ rw same (is.none x a b)
    | inr other ↦ wide.left x j a (omega (arith, is.order)) (omega arith) e
  ];
  right = λ x j a b d e. elim (cases_eq j y) [
    | inl same ↦ rw same (until.none x a b)
    | inr other ↦ wide.right x j (omega (arith, until.order)) b (omega arith) e
  ];
  first = by_first (cases_lt first columns.first);
  last = by_last (cases_lt columns.end end);
}
  where
    by_first : (first < columns.first) ⊎ (columns.first ≤ first) →
        (j : ℕ) × (top ≤ j) × (j ≤ bottom) × (p first j ≡ true)
    by_first (inl less) = (y, omega arith, wide.row.1, is.here less)
    by_first (inr more) =
        let same : first ≡ columns.first = omega (arith, is.order) in
        let (j, a, b, m) = wide.first in
        (j, a, b, rw same m)

    by_last : (columns.end < end) ⊎ (end ≤ columns.end) → (j : ℕ) × (top ≤ j) × (j ≤ bottom) × (p (end - 1) j ≡ true)
    by_last (inl more) = (y, omega arith, wide.row.1, until.here more)
    by_last (inr less) =
        let same : end ≡ columns.end = omega (arith, until.order) in
        let (j, a, b, m) = wide.last in
        (j, a, b, rw same m)

-- that is all where no row is left, or no column
pub wide_all : (p : ℕ → ℕ → Bool) (zone : Rect) (top bottom y : ℕ) (columns : Columns) →
    (y ≤ top) ⊎ ((columns.first ≤ zone.x) × (zone.x + zone.w ≤ columns.end)) →
    IsWide p zone top bottom y columns → SpansRows p zone top bottom columns
wide_all p zone top bottom y columns all wide = record {
  order = wide.order;
  left = by_left all;
  right = by_right all;
  first = wide.first;
  last = wide.last;
}
  where
    by_left : (y ≤ top) ⊎ ((columns.first ≤ zone.x) × (zone.x + zone.w ≤ columns.end)) →
        IsClear p zone.x columns.first top (bottom + 1)
    by_left (inr full) = λ x j a b d e. absurd (omega (arith, full))
    by_left (inl less) = λ x j a b d e. elim (cases_eq j top) [
      | inl same ↦ wide.top_left x j a b d (omega arith)
      | inr other ↦ wide.left x j a b (omega arith) e
    ]

    by_right : (y ≤ top) ⊎ ((columns.first ≤ zone.x) × (zone.x + zone.w ≤ columns.end)) →
        IsClear p columns.end (zone.x + zone.w) top (bottom + 1)
    by_right (inr full) = λ x j a b d e. absurd (omega (arith, full))
    by_right (inl less) = λ x j a b d e. elim (cases_eq j top) [
      | inl same ↦ wide.top_right x j a b d (omega arith)
      | inr other ↦ wide.right x j a b (omega arith) e
    ]

-- the rectangle of those rows and columns
pub box_is : (p : ℕ → ℕ → Bool) (zone : Rect) (top bottom : ℕ) (columns : Columns) → zone.y ≤ top →
    HasBox p (rows_above zone top) None → HasInRow p zone top → IsLastOf p zone top bottom →
    SpansRows p zone top bottom columns →
    IsBox p zone (record { x = columns.first; y = top; w = columns.end - columns.first; h = bottom + 1 - top })
box_is p zone top bottom columns order above some last spans = record {
  within = (spans.order.0, omega (arith, spans.order), order, omega (arith, last.order));
  holds = λ x j c m.
      let (a, b, d, e) = contains_true zone x j c in
      let (f, g, h, i) = inside x j a b d e m in
      contains_row box x j f (omega arith) h (omega arith);
  tight = record {
    some = (omega (arith, spans.order), omega (arith, last.order));
    left = let (j, a, b, m) = spans.first in (
      j,
      contains_row box columns.first j (omega arith) (omega (arith, spans.order)) a (omega (arith, last.order)),
      m,
    );
    right = let (j, a, b, m) = spans.last in
        move_column p box (columns.end - 1) (columns.first + (columns.end - columns.first) - 1)
        (omega (arith, spans.order)) (
          j,
          contains_row box (columns.end - 1) j (omega (arith, spans.order)) (omega (arith, spans.order))
              a (omega (arith, last.order)),
          m,
        );
    top = in_row top (omega arith) last.order.0 some;
    bottom = move_row p box bottom (top + (bottom + 1 - top) - 1) (omega (arith, last.order))
        (in_row bottom last.order.0 (omega arith) last.some);
  };
}
  where
    box : Rect
    box = record { x = columns.first; y = top; w = columns.end - columns.first; h = bottom + 1 - top }

    inside : (x j : ℕ) → zone.x ≤ x → x < zone.x + zone.w → zone.y ≤ j → j < zone.y + zone.h → p x j ≡ true →
        (columns.first ≤ x) × (x < columns.end) × (top ≤ j) × (j ≤ bottom)
    inside x j a b d e m =
        elim (cases_lt j top) [
          | inl before ↦ absurd (both_ways (p x j) (above x j a b d (omega arith)) m)
          | inr from ↦ elim (cases_lt bottom j) [
            | inl after ↦ absurd (both_ways (p x j) (last.below x j a b (omega arith) e) m)
            | inr to ↦ elim (cases_lt x columns.first) [
              | inl left ↦ absurd (both_ways (p x j) (spans.left x j a left from (omega arith)) m)
              | inr more ↦ elim (cases_lt x columns.end) [
                | inl less ↦ (more, less, from, to)
                | inr right ↦ absurd (both_ways (p x j) (spans.right x j right b from (omega arith)) m)
              ]
            ]
          ]
        ]

    in_row : (y : ℕ) → top ≤ y → y ≤ bottom → HasInRow p zone y →
        (x : ℕ) × (contains (record {
          x = columns.first;
          y = top;
          w = columns.end - columns.first;
          h = bottom + 1 - top;
        }) x y ≡ true) × (p x y ≡ true)
    in_row y from to (x, a, b, m) =
        let (f, g, h, i) = inside x y a b (omega arith) (omega (arith, last.order)) m in
        (x, contains_row box x y f (omega arith) h (omega arith), m)

-- ---- the cell from its marked zone

-- where no place is marked none needs sending
pub cell_quiet : (screen : Grid Colour) (session : Session) (cell : Rect) →
    Follows screen session → Holds session.known cell →
    IsClear (is_in session.marks) cell.x (cell.x + cell.w) cell.y (cell.y + cell.h) →
    HasBox (needs_of screen session) cell None
cell_quiet screen session cell about held clear = λ x y a b c d.
    unmarked_quiet screen session x y about (omega (arith, held)) (omega (arith, held)) (clear x y a b c d)

-- and each that does lies in the marked zone
pub cell_zone : (screen : Grid Colour) (session : Session) (cell zone : Rect) (found : Option Rect) →
    Follows screen session → Holds session.known cell →
    IsBox (is_in session.marks) cell zone → HasBox (needs_of screen session) zone found →
    HasBox (needs_of screen session) cell found
cell_zone screen session cell zone None about held box none = λ x y a b c d.
    by_need x y (needs_of screen session x y) refl (omega (arith, held)) (omega (arith, held))
    (contains_row cell x y a b c d)
  where
    by_need : (x y : ℕ) (need : Bool) → needs_of screen session x y ≡ need →
        x < session.known.width → y < session.known.height →
        contains cell x y ≡ true → need ≡ false
    by_need x y false e p q c = refl
    by_need x y true e p q c =
        let (f, g, h, i) = contains_true zone x y (box.holds x y c (needed_marked screen session x y about p q e)) in
        absurd (both_ways (needs_of screen session x y) (none x y f g h i) e)
cell_zone screen session cell zone (Some r) about held box found = record {
  within = (
    omega (arith, box.within, found.within),
    omega (arith, box.within, found.within),
    omega (arith, box.within, found.within),
    omega (arith, box.within, found.within),
  );
  holds = λ x y c m.
      let (a, b, d, e) = contains_true cell x y c in
      found.holds x y
      (box.holds x y c (needed_marked screen session x y about (omega (arith, held)) (omega (arith, held)) m)) m;
  tight = found.tight;
}

-- ---- one place

-- it needs sending where it is asked and known to have another pixel
pub asked_other : (asked whole : Bool) (wanted pixel : ℕ) (old : Option ℕ) → asked ≡ true →
    whole ≡ false → is_known old ≡ true →
    ((known : ℕ) → old ≡ Some known → pixel ≡ known) → not (pixel == wanted) ≡ (asked && (whole || differs wanted old))
asked_other true false wanted pixel (Some known) e f g shown = rw (shown known refl) refl
asked_other true false wanted pixel None e f g shown = absurd (both_ways false refl g)
asked_other true true wanted pixel old e f g shown = absurd (both_ways true f refl)
asked_other false whole wanted pixel old e f g shown = absurd (both_ways false refl e)

-- the least rectangle of a zone of one place
pub single_box : (p : ℕ → ℕ → Bool) (zone : Rect) → zone.w ≡ 1 → zone.h ≡ 1 → p zone.x zone.y ≡ true → IsBox p zone zone
single_box p zone wide high here =
    let corner : contains zone zone.x zone.y ≡ true =
    contains_row zone zone.x zone.y (omega arith) (omega arith) (omega arith) (omega arith) in
    let right : zone.x + zone.w - 1 ≡ zone.x = omega arith in
    let low : zone.y + zone.h - 1 ≡ zone.y = omega arith in
    record {
      within = (omega arith, omega arith, omega arith, omega arith);
      holds = λ x y c q. c;
      tight = record {
        some = (omega arith, omega arith);
        left = (zone.y, corner, here);
        right = rw right (zone.y, corner, here);
        top = (zone.x, corner, here);
        bottom = rw low (zone.x, corner, here);
      };
    }
