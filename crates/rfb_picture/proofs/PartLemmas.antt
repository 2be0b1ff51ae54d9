-- A rectangle filled part by part, and one with no place.
use Rattle.std.proofs.Common.{ℕ, Bool, true, false, ◌≡◌, ◌<◌, ◌≤◌, ◌||◌, refl, sym, ◌∙◌, arith, if◌then◌else◌, inl, inr}
use Rattle.std.proofs.Common.{◌⊎◌}
use Rattle.std.proofs.lemmas.Bool.Decides.{nat_tests}
use Rattle.rfb_picture.specs.declared.rect.Rect.{Rect}
use Rattle.rfb_picture.specs.declared.place_set.parts.Parts.{Parts}
use Rattle.rfb_picture.specs.Rect.{contains}
use Rattle.rfb_picture.specs.Grid.{Grid, IsGrid, filled}
use Rattle.rfb_picture.proofs.GridLemmas.{width-changed, height-changed, whole-changed, at-filled, changed_twice}
use Rattle.rfb_picture.proofs.GridLemmas.{same_changes, same_grid}

or_put : (a b : Bool) (old : Bool) →
    (if b then true else (if a then true else old)) ≡ (if a || b then true else old)
or_put true true old = refl
or_put true false old = refl
or_put false b old = refl

parts_put : (i a b l r all old : Bool) →
    all ≡ (i || a || b || l || r) →
    (if r then true
    else (if l then true
    else (if b then true else (if a then true else (if i then true else old)))))
    ≡ (if all then true else old)
parts_put i a b l r all old e =
    rw (
      e,
      or_put i a old,
      or_put (i || a) b old,
      or_put (i || a || b) l old,
      or_put (i || a || b || l) r old,
    ) refl

-- the places of all parts are those of the rectangle
pub filled-parts : (g : Grid Bool) (r : Rect) (p : Parts) →
    IsGrid g →
    ((x y : ℕ) →
    contains r x y
    ≡ (contains p.inner x y || contains p.above x y || contains p.below x y
    || contains p.left x y || contains p.right x y)) →
    filled p.right true
    (filled p.left true (filled p.below true (filled p.above true (filled p.inner true g))))
    ≡ filled r true g
filled-parts g r p whole all =
    rw (changed_twice, changed_twice, changed_twice, changed_twice)
    (same_changes _ _ g whole
    (λ x y d a b.
    parts_put (contains p.inner x y) (contains p.above x y) (contains p.below x y)
    (contains p.left x y) (contains p.right x y) (contains r x y) _ (all x y)))

-- a rectangle with no column or no row has no place
no_place : (r : Rect) (x y : ℕ) → ((0 < r.w × r.h ≤ 0) ⊎ (r.w ≤ 0)) → contains r x y ≡ false
no_place r x y (inl e) = let low = e.1 in grind (arith, nat_tests)
no_place r x y (inr e) = grind (arith, nat_tests)

filled-none : (g : Grid Bool) (r : Rect) →
    IsGrid g → ((x y : ℕ) → contains r x y ≡ false) → g ≡ filled r true g
filled-none g r whole none =
    same_grid g (filled r true g) whole (whole-changed _ g whole) (sym (width-changed _ g))
    (sym (height-changed _ g))
    (λ x y d p q. sym (at-filled r true g x y d whole p q ∙ (rw (none x y) refl)))

-- so it adds none
pub filled-nowhere : (g : Grid Bool) (r : Rect) → IsGrid g → ((0 < r.w × r.h ≤ 0) ⊎ (r.w ≤ 0)) →
    g ≡ filled r true g
filled-nowhere g r whole none = filled-none g r whole (λ x y. no_place r x y none)
