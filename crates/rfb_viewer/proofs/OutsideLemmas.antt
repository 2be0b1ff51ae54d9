-- What lies outside of a rectangle stays as it was, whatever pieces of its data are shown, and
-- whatever the data as a whole make of a picture.
use Rattle.std.proofs.Common.{◌≡◌, ℕ, zero, suc, ◌+◌, ◌-◌, ◌*◌, ◌/◌, ◌%◌, ◌<◌, ◌≤◌, ◌&&◌, nat_lt, min, Bool, true}
use Rattle.std.proofs.Common.{false, List, [], ◌∷◌, length, get_or, Some, None, if◌then◌else◌, refl, sym, subst, ◌∙◌}
use Rattle.std.proofs.Common.{ap, arith, zero-add}
use Rattle.std.proofs.lemmas.Bool.Decides.{nat_tests}
use Rattle.std.proofs.lemmas.Nat.{div-mul-add, mod-mul-add}
use Rattle.std.proofs.Math.Nat.{min-le_right}
use Rattle.rfb_pixel.specs.declared.colour.Colour.{Colour}
use Rattle.rfb_pixel.specs.Format.{PixelFormat}
use Rattle.rfb_picture.specs.declared.rect.Rect.{Rect}
use Rattle.rfb_picture.specs.Rect.{contains}
use Rattle.rfb_picture.specs.Grid.{Grid, at_or, by_index, changed}
use Rattle.rfb_picture.proofs.GridLaws.{width-changed, contains_true}
use Rattle.rfb_wire.specs.declared.encoding.Encoding.{Encoding}
use Rattle.rfb_wire.specs.stream.Prefix.{Next, More, Got, Bad}
use Rattle.rfb_codec.specs.declared.fault.PaintFault.{PaintFault}
use Rattle.rfb_codec.proofs.EffectLaws.{effect_picture}
use Rattle.rfb_codec.specs.Effect.{painted_by, effect}
use Rattle.rfb_codec.specs.Front.{Front, NoSource, TheSource, SomePixels, NoHead, SomeParts, SomeTiles, SomeOfRaw}
use Rattle.rfb_codec.specs.Front.{tile_places, tiles_over, shown, ShowsFront}
use Rattle.rfb_codec.specs.RectData.{RectData, Pixels, Source, rect_data, painted}
use Rattle.rfb_codec.specs.UpdateStream.{UpdatePoint, Rectangle}
use Rattle.rfb_wire.specs.declared.rect_head.RectHead.{RectHead}
use Rattle.rfb_viewer.specs.Damage.{colour_at}
use Rattle.rfb_viewer.specs.Viewer.{black}
use Rattle.rfb_viewer.proofs.CallLemmas.{shown_columns, shown_rows}

-- ---- a change that leaves a place as it was

module _ {X : Type 0} where
  same_element : (f : ℕ → X → X) (n : ℕ) (xs : List X) (i : ℕ) (d : X) → ((old : X) → f (n + i) old ≡ old) →
      get_or (by_index f n xs) i d ≡ get_or xs i d
  same_element f n [] i d same = refl
  same_element f n (x ∷ xs) zero d same =
      let e : n + 0 ≡ n = omega arith in
      subst (λ (k : ℕ). f k x ≡ x) e (same x)
  same_element f n (x ∷ xs) (suc i) d same =
      let e : n + suc i ≡ (n + 1) + i = omega arith in
      same_element f (n + 1) xs i d (subst (λ (k : ℕ). (old : X) → f k old ≡ old) e same)

  pub unchanged : (f : ℕ → ℕ → X → X) (g : Grid X) (x y : ℕ) (d : X) → x < g.width → ((old : X) → f x y old ≡ old) →
      at_or (changed f g) x y d ≡ at_or g x y d
  unfolding changed
  unchanged f g x y d p same =
      same_element (λ i old. f (i % g.width) (i / g.width) old) 0 g.places (y * g.width + x) d
      (λ old. rw (zero-add, mod-mul-add y g.width x p, div-mul-add y g.width x p) (same old))

-- ---- pieces

-- of a tile's columns or rows none passes the last of the rectangle
within_tile : (a k w x : ℕ) → a + k ≤ x → x < a + k + min 16 (w - k) → (a ≤ x) × (x < a + w)
within_tile a k w x low high = let few = min-le_right 16 (w - k) in (omega (arith, low), omega (arith, low, high, few))

contained : (r : Rect) (x y : ℕ) → r.x ≤ x → x < r.x + r.w → r.y ≤ y → y < r.y + r.h → contains r x y ≡ true
contained r x y left right top lower = grind (arith, nat_tests)

outside_tile : (rect : Rect) (n x y : ℕ) → contains rect x y ≡ false → contains (tile_places rect n) x y ≡ false
outside_tile rect n x y out = by (contains (tile_places rect n) x y) refl
  where
    by : (b : Bool) → contains (tile_places rect n) x y ≡ b → contains (tile_places rect n) x y ≡ false
    by false e = e
    by true e =
        let h = contains_true (tile_places rect n) x y e in
        let column = within_tile rect.x _ rect.w x h.0 h.1 in
        let row = within_tile rect.y _ rect.h y h.2 h.3 in
        let inside = contained rect x y column.0 column.1 row.0 row.1 in
        absurd cc

shown_same : (f : PixelFormat) (rect : Rect) (front : Front) (g : Grid Colour) (x y : ℕ) (d : Colour) → x < g.width →
    contains rect x y ≡ false → at_or (shown f rect front g) x y d ≡ at_or g x y d
shown_same f rect NoSource g x y d p out = refl
shown_same f rect (TheSource sx sy) g x y d p out = unchanged _ g x y d p (λ old. rw out refl)
shown_same f rect (SomePixels count pixels) g x y d p out = unchanged _ g x y d p (λ old. rw out refl)
shown_same f rect NoHead g x y d p out = refl
shown_same f rect (SomeParts count background subs) g x y d p out = unchanged _ g x y d p (λ old. rw out refl)
shown_same f rect (SomeTiles tiles) g x y d p out = unchanged _ g x y d p (λ old. rw out refl)
shown_same f rect (SomeOfRaw tiles count pixels) g x y d p out =
    let n = length tiles in
    let tile = outside_tile rect n x y out in
    let wide : x < (tiles_over f rect n tiles g).width = subst (λ (k : ℕ). x < k) (sym (width-changed _ g)) p in
    unchanged _ (tiles_over f rect n tiles g) x y d wide (λ old. rw tile refl)
    ∙ unchanged _ g x y d p (λ old. rw out refl)

-- ---- data

painted_same : (f : PixelFormat) (rect : Rect) (contents : RectData) (g : Grid Colour) (x y : ℕ) (d : Colour) →
    x < g.width → contains rect x y ≡ false → at_or (painted f rect contents g) x y d ≡ at_or g x y d
painted_same f rect (Pixels block) g x y d p out = unchanged _ g x y d p (λ old. rw out refl)
painted_same f rect (Source sx sy) g x y d p out = unchanged _ g x y d p (λ old. rw out refl)

painted_by_same : (f : PixelFormat) (rect : Rect) (n : Next RectData PaintFault) (g : Grid Colour) (x y : ℕ)
    (d : Colour) → x < g.width → contains rect x y ≡ false → at_or (painted_by f rect n g) x y d ≡ at_or g x y d
painted_by_same f rect More g x y d p out = refl
painted_by_same f rect (Got contents []) g x y d p out = painted_same f rect contents g x y d p out
painted_by_same f rect (Got contents (byte ∷ rest)) g x y d p out = refl
painted_by_same f rect (Bad fault) g x y d p out = refl

effect_same : (q : UpdatePoint) (head : RectHead) (body : List ℕ) (g : Grid Colour) (x y : ℕ) (d : Colour) →
    x < g.width → contains head.rect x y ≡ false → at_or (effect q (Rectangle head body) g) x y d ≡ at_or g x y d
unfolding effect
effect_same q head body g x y d p out =
    painted_by_same q.form head.rect (rect_data q.form q.width q.height head.rect head.encoding body) g x y d p out

-- ---- colours

colour_same : (old new : Grid Colour) (x y : ℕ) → new.width ≡ old.width → new.height ≡ old.height →
    (x < old.width → at_or new x y black ≡ at_or old x y black) → colour_at (Some new) x y ≡ colour_at (Some old) x y
colour_same old new x y wide high same = by (nat_lt x old.width) refl
  where
    by : (b : Bool) → nat_lt x old.width ≡ b → colour_at (Some new) x y ≡ colour_at (Some old) x y
    by false e = let e' : nat_lt x new.width ≡ false = ap (λ (k : ℕ). nat_lt x k) wide ∙ e in rw (e, e') refl
    by true e =
        let p : x < old.width = grind (arith, nat_tests) in
        ap (λ (c : Colour). if nat_lt x new.width && nat_lt y new.height then Some c else None) (same p)
        ∙ ap (λ (k : ℕ). if nat_lt x k && nat_lt y new.height then Some (at_or old x y black) else None) wide
        ∙ ap (λ (k : ℕ). if nat_lt x old.width && nat_lt y k then Some (at_or old x y black) else None) high

-- pieces of a rectangle leave the places outside of it
pub front_outside : (f : PixelFormat) (rect : Rect) (encoding : Encoding) (before : Grid Colour) (body pending : List ℕ)
    (now : Grid Colour) → ShowsFront f rect encoding before body pending now → (x y : ℕ) → contains rect x y ≡ false →
    colour_at (Some now) x y ≡ colour_at (Some before) x y
front_outside f rect encoding before body pending now s x y out =
    let is = s.shown_is.shows in
    ap (λ (g : Grid Colour). colour_at (Some g) x y) is
    ∙ colour_same before (shown f rect s.front before) x y (shown_columns f rect s.front before)
    (shown_rows f rect s.front before) (λ p. shown_same f rect s.front before x y black p out)

-- and so does its item
pub effect_outside : (q : UpdatePoint) (head : RectHead) (body : List ℕ) (g : Grid Colour) (x y : ℕ) →
    contains head.rect x y ≡ false → colour_at (Some (effect q (Rectangle head body) g)) x y ≡ colour_at (Some g) x y
effect_outside q head body g x y out =
    let kept = effect_picture q (Rectangle head body) g in
    colour_same g (effect q (Rectangle head body) g) x y kept.columns kept.rows
    (λ p. effect_same q head body g x y black p out)
