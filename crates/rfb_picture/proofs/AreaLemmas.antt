-- Laws of areas, for this crate's proofs and those above it: what is asked and whole after a call.
use Rattle.std.proofs.Common.{ℕ, Bool, true, false, ◌≡◌, ◌<◌, ◌⊎◌}
use Rattle.std.proofs.Common.{inl, inr, refl, sym, ap, ◌∙◌, arith}
use Rattle.std.proofs.Common.{◌&&◌, ◌||◌}
use Rattle.std.proofs.Common.{eqb}
use Rattle.std.proofs.Common.{if◌then◌else◌}
use Rattle.std.proofs.lemmas.Bool.{both_ways, eqb-true}
use Rattle.std.proofs.lemmas.Bool.Decides.{nat_tests}
use Rattle.rfb_picture.specs.declared.rect.Rect.{Rect}
use Rattle.rfb_picture.specs.Rect.{contains, rect}
use Rattle.rfb_picture.specs.Grid.{uniform}
use Rattle.rfb_picture.specs.Area.{Places, IsArea, IsNoted, HasNoWhole, asked_at, whole_at, no_places, added}
use Rattle.rfb_picture.proofs.GridLemmas.{at-filled, at-uniform, width-changed, height-changed, whole-changed}
use Rattle.rfb_picture.proofs.GridLemmas.{width-uniform, height-uniform, whole-uniform, same_grid}
use Rattle.rfb_picture.proofs.NotedLemmas.{any_default}

-- ---- an area with nothing asked

pub asked_at-no_places : (w h x y : ℕ) → x < w → y < h → asked_at (no_places w h) x y ≡ false
asked_at-no_places w h x y p q = at-uniform w h false x y false p q

pub whole_at-no_places : (w h x y : ℕ) → x < w → y < h → whole_at (no_places w h) x y ≡ false
whole_at-no_places w h x y p q = at-uniform w h false x y false p q

pub area-no_places : (w h : ℕ) → IsArea (no_places w h)
area-no_places w h = record {
  asks = whole-uniform w h false;
  wholes = whole-uniform w h false;
  wide = refl;
  high = refl;
  inside = λ x y p q e.
      absurd (both_ways (whole_at (no_places w h) x y)
      (whole_at-no_places w h x y (rw width-uniform at p) (rw height-uniform at q)) e);
}

-- ---- an area with a rectangle more

pub asked_at-added : (r : Rect) (w : Bool) (a : Places) (x y : ℕ) →
    IsArea a →
    x < a.asked.width →
    y < a.asked.height →
    asked_at (added r w a) x y ≡ (if contains r x y then true else asked_at a x y)
asked_at-added r w a x y sound p q = at-filled r true a.asked x y false sound.asks p q

pub whole_at-added : (r : Rect) (w : Bool) (a : Places) (x y : ℕ) →
    IsArea a →
    x < a.asked.width →
    y < a.asked.height →
    whole_at (added r w a) x y
    ≡ (if w then (if contains r x y then true else whole_at a x y) else whole_at a x y)
whole_at-added r true a x y sound p q =
    at-filled r true a.whole x y false sound.wholes (rw sound.wide p) (rw sound.high q)
whole_at-added r false a x y sound p q = refl

-- a place that was asked stays asked, and one that was whole stays whole
kept : (b u v : Bool) → (u ≡ true → v ≡ true) → (if b then true else u) ≡ true →
    (if b then true else v) ≡ true
kept true u v h e = refl
kept false u v h e = h e

also : (b v : Bool) → v ≡ true → (if b then true else v) ≡ true
also true v e = refl
also false v e = e

pub area-added : (r : Rect) (w : Bool) (a : Places) → IsArea a → IsArea (added r w a)
area-added r true a sound = record {
  asks = whole-changed _ a.asked sound.asks;
  wholes = whole-changed _ a.whole sound.wholes;
  wide = width-changed _ a.whole ∙ (sound.wide ∙ sym (width-changed _ a.asked));
  high = height-changed _ a.whole ∙ (sound.high ∙ sym (height-changed _ a.asked));
  inside = λ x y p q e.
      let x_in = rw width-changed at p in
      let y_in = rw height-changed at q in
      let was = sym (whole_at-added r true a x y sound x_in y_in) ∙ e in
      asked_at-added r true a x y sound x_in y_in
      ∙ kept (contains r x y) (whole_at a x y) (asked_at a x y) (sound.inside x y x_in y_in)
      was;
}
area-added r false a sound = record {
  asks = whole-changed _ a.asked sound.asks;
  wholes = sound.wholes;
  wide = sound.wide ∙ sym (width-changed _ a.asked);
  high = sound.high ∙ sym (height-changed _ a.asked);
  inside = λ x y p q e.
      let x_in = rw width-changed at p in
      let y_in = rw height-changed at q in
      asked_at-added r false a x y sound x_in y_in
      ∙ also (contains r x y) (asked_at a x y) (sound.inside x y x_in y_in e);
}

-- ---- what is noted of an area

in_whole : (w h x y : ℕ) → x < w → y < h → contains (rect 0 0 w h) x y ≡ true
in_whole w h x y p q = grind (arith, nat_tests)

both_true : (a b : Bool) → (a && b) ≡ true → (a ≡ true) × (b ≡ true)
both_true true true e = (refl, refl)
both_true true false e = absurd cc
both_true false b e = absurd cc

abbrev rect_of : ℕ → ℕ → ℕ → ℕ → Rect
rect_of x y w h = record { x = x; y = y; w = w; h = h }

same_sides : (r : Rect) (p q i j : ℕ) → r.x ≡ 0 → r.y ≡ 0 → r.w ≡ p → r.h ≡ q →
    p ≡ i → q ≡ j → rect_of r.x r.y r.w r.h ≡ rect 0 0 i j
same_sides r p q i j a b c d e f = rw (a, b, c ∙ e, d ∙ f) refl

-- a rectangle that is compared with that of all places
pub is_whole_rect : (r all : Rect) (p q i j : ℕ) → (eqb r.x all.x && (eqb r.y all.y
    && (eqb r.w all.w && eqb r.h all.h))) ≡ true → all ≡ rect 0 0 p q →
    p ≡ i → q ≡ j → r ≡ rect 0 0 i j
is_whole_rect r all p q i j e is wide high =
    let (x, a) = both_true (eqb r.x all.x) _ e in
    let (y, b) = both_true (eqb r.y all.y) _ a in
    let (w, h) = both_true (eqb r.w all.w) (eqb r.h all.h) b in
    same_sides r p q i j (eqb-true _ _ x ∙ ap (λ (t : Rect). t.x) is) (eqb-true _ _ y ∙ ap (λ (t : Rect). t.y) is)
    (eqb-true _ _ w ∙ ap (λ (t : Rect). t.w) is) (eqb-true _ _ h ∙ ap (λ (t : Rect). t.h) is) wide high

-- one of both
pub either : (a b : Bool) → (a || b) ≡ true → (a ≡ true) ⊎ (b ≡ true)
either true b e = inl refl
either false b e = inr e

pub noted-no_places : (w h : ℕ) → IsNoted (no_places w h) false true
noted-no_places w h = record {
  area = area-no_places w h;
  all_asked = λ e. absurd cc;
  none_whole = λ e x y p q. whole_at-no_places w h x y (rw width-uniform at p) (rw height-uniform at q);
}

pub noted-added : (r : Rect) (w : Bool) (a : Places) (all plain all_too plain_too : Bool) →
    IsNoted a all plain →
    (all_too ≡ true → (all ≡ true) ⊎ (r ≡ rect 0 0 a.asked.width a.asked.height)) →
    (plain_too ≡ true → (plain ≡ true) × (w ≡ false)) →
    IsNoted (added r w a) all_too plain_too
noted-added r w a all plain all_too plain_too noted alls plains = record {
  area = area-added r w a noted.area;
  all_asked = λ e x y p q.
      let x_in = rw width-changed at p in
      let y_in = rw height-changed at q in
      asked_at-added r w a x y noted.area x_in y_in
      ∙ elim (alls e) [
        | inl was ↦ also (contains r x y) (asked_at a x y) (noted.all_asked was x y x_in y_in)
        | inr is ↦ rw (is, in_whole a.asked.width a.asked.height x y x_in y_in) refl
      ];
  none_whole = λ e x y p q.
      let x_in = rw width-changed at p in
      let y_in = rw height-changed at q in
      whole_at-added r w a x y noted.area x_in y_in
      ∙ rw ((plains e).1) (noted.none_whole (plains e).0 x y x_in y_in);
}

-- where no place is whole, the set of those is empty
pub none_whole_is : (a : Places) → IsArea a → HasNoWhole a →
    a.whole ≡ uniform a.asked.width a.asked.height false
none_whole_is a area none =
    same_grid a.whole (uniform a.asked.width a.asked.height false) area.wholes
    (whole-uniform a.asked.width a.asked.height false)
    (area.wide ∙ sym (width-uniform a.asked.width a.asked.height false))
    (area.high ∙ sym (height-uniform a.asked.width a.asked.height false))
    (λ x y d p q.
    let column : x < a.asked.width = omega (arith, p, area.wide) in
    let row : y < a.asked.height = omega (arith, q, area.high) in
    any_default a.whole x y d area.wholes p q ∙ none x y column row
    ∙ sym (at-uniform a.asked.width a.asked.height false x y d column row))
