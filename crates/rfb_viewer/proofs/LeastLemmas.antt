-- The damage of rectangles is the least rectangle that holds them all.
use Rattle.std.proofs.Common.{◌≡◌, ℕ, ◌+◌, ◌-◌, ◌<◌, ◌≤◌, ◌&&◌, nat_lt, Bool, true, false, List, [], ◌∷◌, ◌++◌, Option}
use Rattle.std.proofs.Common.{Some, None, refl, arith}
use Rattle.std.proofs.lemmas.Bool.Decides.{nat_tests}
use Rattle.std.proofs.Math.Nat.{le-min, max-le, min-le_left, le-max_left}
use Rattle.std.proofs.lemmas.List.Elements.{All-head, All-tail}
use Rattle.std.specs.List.{All}
use Rattle.rfb_picture.specs.declared.rect.Rect.{Rect}
use Rattle.rfb_picture.specs.Rect.{contains}
use Rattle.rfb_picture.proofs.GridLaws.{contains_true}
use Rattle.rfb_viewer.specs.declared.viewer.damage.Edges.{Edges}
use Rattle.rfb_viewer.specs.Damage.{edges_of, rect_between, outermost, with_edges, joined, joined_all, rect_of_damage}
use Rattle.rfb_viewer.specs.Damage.{holds, IsWithin}
use Rattle.rfb_viewer.proofs.DamageLemmas.{inside, joined_holds}

-- ---- it holds them all

-- what is held stays held, and what is joined is held
held_by : (d : Option Edges) (r : Rect) (x y : ℕ) (b : Bool) → holds (rect_of_damage (joined d r)) x y ≡ b →
    ((holds (rect_of_damage d) x y ≡ true) → b ≡ true) × ((contains r x y ≡ true) → b ≡ true)
held_by d r x y true e = (λ _. refl, λ _. refl)
held_by d r x y false e =
    let h = joined_holds d r x y e in
    (λ was. absurd (let out = h.0 in cc), λ was. absurd (let out = h.1 in cc))

stays_held : (d : Option Edges) (rects : List Rect) (x y : ℕ) → holds (rect_of_damage d) x y ≡ true →
    holds (rect_of_damage (joined_all d rects)) x y ≡ true
stays_held d [] x y h = h
stays_held d (r ∷ rects) x y h = stays_held (joined d r) rects x y ((held_by d r x y _ refl).0 h)

all_held : (d : Option Edges) (before after : List Rect) (r : Rect) (x y : ℕ) → contains r x y ≡ true →
    holds (rect_of_damage (joined_all d (before ++ r ∷ after))) x y ≡ true
all_held d [] after r x y h = stays_held (joined d r) after x y ((held_by d r x y _ refl).1 h)
all_held d (first ∷ before) after r x y h = all_held (joined d first) before after r x y h

pub damage_holds : (before after : List Rect) (r : Rect) (x y : ℕ) → contains r x y ≡ true →
    holds (rect_of_damage (joined_all None (before ++ r ∷ after))) x y ≡ true
damage_holds before after r x y h = all_held None before after r x y h

-- ---- and no more

-- edges of places that stay within those of another rectangle
record Bounded (e : Edges) (outer : Rect) : Type 0 where
  columns : e.left < e.right
  rows : e.top < e.lower
  left : outer.x ≤ e.left
  right : e.right ≤ outer.x + outer.w
  top : outer.y ≤ e.top
  lower : e.lower ≤ outer.y + outer.h

abbrev Fits : Option Edges → Rect → Type 0
Fits None outer = Unit {0}
Fits (Some e) outer = Bounded e outer

-- the corners of a rectangle give its edges
bounded : (r outer : Rect) → 0 < r.w → 0 < r.h → IsWithin (Some r) outer → Bounded (edges_of r) outer
bounded r outer wide high within =
    let first =
    within r.x r.y (inside r r.x r.y (omega arith) (omega (arith, wide)) (omega arith) (omega (arith, high))) in
    let last = within (r.x + r.w - 1) (r.y + r.h - 1) (inside r (r.x + r.w - 1) (r.y + r.h - 1) (omega (arith, wide))
    (omega (arith, wide)) (omega (arith, high)) (omega (arith, high))) in
    let a = contains_true outer r.x r.y first in
    let b = contains_true outer (r.x + r.w - 1) (r.y + r.h - 1) last in
    record {
      columns = omega (arith, wide);
      rows = omega (arith, high);
      left = a.0;
      right = omega (arith, b.1);
      top = a.2;
      lower = omega (arith, b.3);
    }

both_bounded : (a b : Edges) (outer : Rect) → Bounded a outer → Bounded b outer → Bounded (outermost a b) outer
both_bounded a b outer p q =
    let left = min-le_left a.left b.left in
    let right = le-max_left a.right b.right in
    let top = min-le_left a.top b.top in
    let lower = le-max_left a.lower b.lower in
    record {
      columns = omega (arith, left, right, p.columns);
      rows = omega (arith, top, lower, p.rows);
      left = le-min p.left q.left;
      right = max-le p.right q.right;
      top = le-min p.top q.top;
      lower = max-le p.lower q.lower;
    }

fits_with : (d : Option Edges) (e : Edges) (outer : Rect) → Fits d outer → Bounded e outer → Fits (with_edges d e) outer
fits_with None e outer fits q = q
fits_with (Some a) e outer fits q = both_bounded a e outer fits q

fits_joined : (d : Option Edges) (r outer : Rect) → Fits d outer → IsWithin (Some r) outer → Fits (joined d r) outer
fits_joined d r outer fits within = by (nat_lt 0 r.w && nat_lt 0 r.h) refl
  where
    by : (some : Bool) → (nat_lt 0 r.w && nat_lt 0 r.h) ≡ some → Fits (joined d r) outer
    by true is =
        let wide : 0 < r.w = grind (arith, nat_tests) in
        let high : 0 < r.h = grind (arith, nat_tests) in
        rw is (fits_with d (edges_of r) outer fits (bounded r outer wide high within))
    by false is = rw is fits

fits_within : (d : Option Edges) (outer : Rect) → Fits d outer → IsWithin (rect_of_damage d) outer
fits_within None outer fits x y h = absurd cc
fits_within (Some e) outer fits x y h =
    let c = contains_true (rect_between e) x y h in
    inside outer x y (omega (arith, c.0, fits.left)) (omega (arith, c.0, c.1, fits.right, fits.columns))
    (omega (arith, c.2, fits.top)) (omega (arith, c.2, c.3, fits.lower, fits.rows))

fits_all : (d : Option Edges) (rects : List Rect) (outer : Rect) → Fits d outer →
    All (λ r. IsWithin (Some r) outer) rects → Fits (joined_all d rects) outer
fits_all d [] outer fits all = fits
fits_all d (r ∷ rects) outer fits all = fits_all (joined d r) rects outer (fits_joined d r outer fits
    (All-head (λ k. IsWithin (Some k) outer) r rects all)) (All-tail (λ k. IsWithin (Some k) outer) r rects all)

pub damage_within : (rects : List Rect) (outer : Rect) → All (λ r. IsWithin (Some r) outer) rects →
    IsWithin (rect_of_damage (joined_all None rects)) outer
damage_within rects outer all = fits_within (joined_all None rects) outer (fits_all None rects outer tt all)
