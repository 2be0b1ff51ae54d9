-- What the items of an update make of a picture, and of what is known of it.
use Rattle.std.proofs.Common.{◌≡◌, ℕ, ◌+◌, ◌-◌, ◌<◌, List, [], ◌∷◌, ◌++◌, Bool, true, false, Option, Some, None}
use Rattle.std.proofs.Common.{if◌then◌else◌, refl, sym, subst, ◌∙◌, ap, arith, append-nil}
use Rattle.rfb_pixel.specs.declared.colour.Colour.{Colour}
use Rattle.rfb_pixel.specs.Format.{PixelFormat, colour_of}
use Rattle.rfb_picture.specs.declared.rect.Rect.{Rect}
use Rattle.rfb_picture.specs.Rect.{contains}
use Rattle.rfb_picture.specs.Grid.{Grid, IsGrid, Holds, at_or, changed, copied}
use Rattle.rfb_picture.proofs.GridLaws.{at-changed, width-changed, height-changed, whole-changed, contains_true}
use Rattle.rfb_picture.proofs.CopyLaws.{at-copied}
use Rattle.rfb_wire.specs.declared.rect_head.RectHead.{RectHead}
use Rattle.rfb_wire.specs.declared.encoding.Encoding.{Encoding}
use Rattle.rfb_wire.specs.declared.encoding.Encoding.TheVariants.{Raw, CopyRect, Rre, Hextile}
use Rattle.rfb_wire.specs.stream.Prefix.{Next, More, Got, Bad}
use Rattle.rfb_wire.specs.ServerMessage.{ServerMessage}
use Rattle.rfb_codec.specs.declared.fault.PaintFault.{PaintFault}
use Rattle.rfb_codec.specs.RectData.{RectData, Pixels, Source, SpellsData, rect_data, moved_to, replaced, painted}
use Rattle.rfb_codec.specs.UpdateStream.{UpdatePoint, UpdateItem, Message, Rectangle}
use Rattle.rfb_codec.specs.Effect.{painted_by, effect, effects, IsAlike, Agrees, recorded, IsRecorded, noted}
use Rattle.rfb_codec.proofs.RectDataLaws.{rect_data_reads}

-- ---- the effect

-- bytes that stand for data are read as these, and nothing is left
pub data_got : (f : PixelFormat) (width height : ℕ) (head : RectHead) (contents : RectData) (body : List ℕ) →
    SpellsData f width height head.rect head.encoding contents body →
    rect_data f width height head.rect head.encoding body ≡ Got contents []
data_got f width height head contents body spelled =
    let read : rect_data f width height head.rect head.encoding (body ++ []) ≡ Got contents [] =
    (rect_data_reads f width height head.rect head.encoding).only contents body [] spelled in
    subst (λ (ys : List ℕ). rect_data f width height head.rect head.encoding ys ≡ Got contents [])
    (append-nil body) read

-- what is read has nothing after it exactly where the bytes are data
pub data_spelled : (f : PixelFormat) (width height : ℕ) (head : RectHead) (contents : RectData) (body : List ℕ) →
    rect_data f width height head.rect head.encoding body ≡ Got contents [] →
    SpellsData f width height head.rect head.encoding contents body
data_spelled f width height head contents body e =
    let one = (rect_data_reads f width height head.rect head.encoding).found body contents [] e in
    subst (λ (ys : List ℕ). SpellsData f width height head.rect head.encoding contents ys)
    (sym (append-nil one.0) ∙ sym one.1) one.2

pub effect_painted : (p : UpdatePoint) (head : RectHead) (contents : RectData) (body : List ℕ) (picture : Grid Colour) →
    SpellsData p.form p.width p.height head.rect head.encoding contents body →
    effect p (Rectangle head body) picture ≡ painted p.form head.rect contents picture
unfolding effect
effect_painted p head contents body picture spelled =
    rw (data_got p.form p.width p.height head contents body spelled) refl

painted_nothing : (f : PixelFormat) (rect : Rect) (n : Next RectData PaintFault) (picture : Grid Colour) →
    ((contents : RectData) → n ≡ Got contents [] → ⊥) → painted_by f rect n picture ≡ picture
painted_nothing f rect More picture none = refl
painted_nothing f rect (Got contents []) picture none = absurd (none contents refl)
painted_nothing f rect (Got contents (byte ∷ rest)) picture none = refl
painted_nothing f rect (Bad fault) picture none = refl

-- bytes that stand for no data have none
pub effect_nothing : (p : UpdatePoint) (head : RectHead) (body : List ℕ) (picture : Grid Colour) →
    ((contents : RectData) → SpellsData p.form p.width p.height head.rect head.encoding contents body → ⊥) →
    effect p (Rectangle head body) picture ≡ picture
unfolding effect
effect_nothing p head body picture none =
    painted_nothing p.form head.rect (rect_data p.form p.width p.height head.rect head.encoding body) picture
    (λ contents e. none contents (data_spelled p.form p.width p.height head contents body e))

pub effect_message : (p : UpdatePoint) (message : ServerMessage) (picture : Grid Colour) →
    effect p (Message message) picture ≡ picture
unfolding effect
effect_message p message picture = refl

-- how many rectangles are left of the update does not matter
pub effect_left : (p : UpdatePoint) (left : ℕ) (item : UpdateItem) (picture : Grid Colour) →
    effect (record p { left = left }) item picture ≡ effect p item picture
unfolding effect
effect_left p left (Message message) picture = refl
effect_left p left (Rectangle head body) picture = refl

pub effects_left : (p : UpdatePoint) (left : ℕ) (items : List UpdateItem) (picture : Grid Colour) →
    effects (record p { left = left }) items picture ≡ effects p items picture
effects_left p left [] picture = refl
effects_left p left (item ∷ items) picture =
    ap (effects (record p { left = left }) items) (effect_left p left item picture)
    ∙ effects_left p left items (effect p item picture)

-- the effect of items after items
pub effects_more : (p : UpdatePoint) (xs ys : List UpdateItem) (picture : Grid Colour) →
    effects p (xs ++ ys) picture ≡ effects p ys (effects p xs picture)
effects_more p [] ys picture = refl
effects_more p (item ∷ xs) ys picture = effects_more p xs ys (effect p item picture)

-- ---- sizes

-- a picture of the same size, whole if the first is
pub record IsKept {X : Type 0} (before now : Grid X) : Type 0 where
  pub columns : now.width ≡ before.width
  pub rows : now.height ≡ before.height
  pub whole : IsGrid before → IsGrid now

module _ {X : Type 0} where
  kept_same : (g : Grid X) → IsKept g g
  kept_same g = record { columns = refl; rows = refl; whole = λ w. w }

  kept_then : (a b c : Grid X) → IsKept a b → IsKept b c → IsKept a c
  kept_then a b c one two =
      record { columns = two.columns ∙ one.columns; rows = two.rows ∙ one.rows; whole = λ w. two.whole (one.whole w) }

  kept_changed : (f : ℕ → ℕ → X → X) (g : Grid X) → IsKept g (changed f g)
  kept_changed f g = record { columns = width-changed f g; rows = height-changed f g; whole = whole-changed f g }

pub painted_kept : (f : PixelFormat) (rect : Rect) (contents : RectData) (picture : Grid Colour) →
    IsKept picture (painted f rect contents picture)
painted_kept f rect (Pixels block) picture = kept_changed _ picture
painted_kept f rect (Source x y) picture = kept_changed _ picture

pub noted_kept : (rect : Rect) (contents : RectData) (known : Grid (Option ℕ)) →
    IsKept known (noted rect contents known)
noted_kept rect (Pixels block) known = kept_changed _ known
noted_kept rect (Source x y) known = kept_changed _ known

by_kept : (f : PixelFormat) (rect : Rect) (n : Next RectData PaintFault) (picture : Grid Colour) →
    IsKept picture (painted_by f rect n picture)
by_kept f rect More picture = kept_same picture
by_kept f rect (Got contents []) picture = painted_kept f rect contents picture
by_kept f rect (Got contents (byte ∷ rest)) picture = kept_same picture
by_kept f rect (Bad fault) picture = kept_same picture

pub effect_picture : (p : UpdatePoint) (item : UpdateItem) (picture : Grid Colour) →
    IsKept picture (effect p item picture)
unfolding effect
effect_picture p (Message message) picture = kept_same picture
effect_picture p (Rectangle head body) picture =
    by_kept p.form head.rect (rect_data p.form p.width p.height head.rect head.encoding body) picture

pub effects_picture : (p : UpdatePoint) (items : List UpdateItem) (picture : Grid Colour) →
    IsKept picture (effects p items picture)
effects_picture p [] picture = kept_same picture
effects_picture p (item ∷ items) picture =
    kept_then picture (effect p item picture) (effects p items (effect p item picture)) (effect_picture p item picture)
    (effects_picture p items (effect p item picture))

-- ---- agreement

-- a pixel that is known where a choice is made
chosen : (b : Bool) (pixel : ℕ) (new : ℕ) (old : Option ℕ) (c e : Colour) (f : PixelFormat) →
    (if b then Some new else old) ≡ Some pixel →
    (b ≡ true → c ≡ colour_of f new) →
    (b ≡ false → old ≡ Some pixel → e ≡ colour_of f pixel) →
    (if b then c else e) ≡ colour_of f pixel
chosen true pixel new old c e f is inside outside =
    let same : new ≡ pixel = cc in inside refl ∙ ap (colour_of f) same
chosen false pixel new old c e f is inside outside = outside refl is

module _ (f : PixelFormat) (rect : Rect) (picture : Grid Colour) (known : Grid (Option ℕ)) where
  -- pixels are painted, and at each place the block's is known, or the old one
  pub agrees_placed : (block : Grid ℕ) (now : Grid (Option ℕ)) → IsGrid picture → IsAlike picture known →
      IsAlike known now → Agrees f picture known →
      IsRecorded rect block known now →
      Agrees f (replaced f rect block picture) now
  agrees_placed block now whole alike same agrees placed = λ x y pixel d p q is.
      let p' : x < picture.width = rw (alike.columns, same.columns) p in
      let q' : y < picture.height = rw (alike.rows, same.rows) q in
      let here : at_or (replaced f rect block picture) x y d
      ≡ (if contains rect x y then colour_of f (at_or block (x - rect.x) (y - rect.y) 0) else at_or picture x y d) =
      at-changed _ picture x y d whole p' q' in
      here
      ∙ chosen (contains rect x y) pixel (at_or block (x - rect.x) (y - rect.y) 0) (at_or known x y None) (colour_of
      f (at_or block (x - rect.x) (y - rect.y) 0)) (at_or picture x y d) f (sym (placed x y p q) ∙ is) (λ _. refl)
      (λ _ old. agrees x y pixel d (rw same.columns p) (rw same.rows q) old)

  pub agrees_replaced : (block : Grid ℕ) → IsGrid picture → IsGrid known → IsAlike picture known →
      Agrees f picture known → Agrees f (replaced f rect block picture) (recorded rect block known)
  agrees_replaced block whole whole_known alike agrees =
      agrees_placed block (recorded rect block known) whole alike
      (record { columns = sym (width-changed _ known); rows = sym (height-changed _ known) }) agrees
      (λ x y p q. at-changed _ known x y None whole_known (subst (λ (n : ℕ). x < n) (width-changed _ known) p)
      (subst (λ (n : ℕ). y < n) (height-changed _ known) q))

  -- a source on the screen is copied, with what is known of it
  pub agrees_copied : (sx sy : ℕ) → IsGrid picture →
      IsGrid known → IsAlike picture known → Holds known (moved_to sx sy rect) → Agrees f picture known →
      Agrees f (copied rect sx sy picture) (copied rect sx sy known)
  agrees_copied sx sy whole whole_known alike (right, lower) agrees = λ x y pixel d p q is.
      let p' : x < known.width = subst (λ (n : ℕ). x < n) (width-changed _ known) p in
      let q' : y < known.height = subst (λ (n : ℕ). y < n) (height-changed _ known) q in
      let there : at_or (copied rect sx sy known) x y None ≡ (if contains rect x y
      then at_or known (sx + (x - rect.x)) (sy + (y - rect.y)) None else at_or known x y None) =
      at-copied rect sx sy known x y None whole_known (right, lower) p' q' in
      let here : at_or (copied rect sx sy picture) x y d ≡ (if contains rect x y
      then at_or picture (sx + (x - rect.x)) (sy + (y - rect.y)) d else at_or picture x y d) = at-copied rect sx sy
      picture x y d whole (rw alike.columns right, rw alike.rows lower) (rw alike.columns p') (rw alike.rows q') in
      here ∙ by (contains rect x y) x y pixel d p' q' refl (sym there ∙ is)
    where
      by : (b : Bool) (x y pixel : ℕ) (d : Colour) → x < known.width → y < known.height → contains rect x y ≡ b →
          (if b then at_or known (sx + (x - rect.x)) (sy + (y - rect.y)) None else at_or known x y None) ≡ Some pixel →
          (if b then at_or picture (sx + (x - rect.x)) (sy + (y - rect.y)) d else at_or picture x y d)
          ≡ colour_of f pixel
      by true x y pixel d p q inside is =
          let place = contains_true rect x y inside in
          agrees (sx + (x - rect.x)) (sy + (y - rect.y)) pixel d (omega (arith, right, place))
          (omega (arith, lower, place)) is
      by false x y pixel d p q inside is = agrees x y pixel d p q is

-- whatever the data of a rectangle are
pub agrees_item : (p : UpdatePoint) (head : RectHead)
    (contents : RectData) (body : List ℕ) (picture : Grid Colour) (known : Grid (Option ℕ)) →
    IsGrid picture → IsGrid known → IsAlike picture known → known.width ≡ p.width → known.height ≡ p.height →
    SpellsData p.form p.width p.height head.rect head.encoding contents body → Agrees p.form picture known →
    Agrees p.form (effect p (Rectangle head body) picture) (noted head.rect contents known)
agrees_item p head contents body picture known whole whole_known alike columns rows spelled agrees =
    subst (λ (g : Grid Colour). Agrees p.form g (noted head.rect contents known))
    (sym (effect_painted p head contents body picture spelled)) (by contents head.encoding spelled)
  where
    by : (d : RectData) (encoding : Encoding) → SpellsData p.form p.width p.height head.rect encoding d body →
        Agrees p.form (painted p.form head.rect d picture) (noted head.rect d known)
    by (Pixels block) encoding is = agrees_replaced p.form head.rect picture known block whole whole_known alike agrees
    by (Source x y) Raw none = absurd none
    by (Source x y) CopyRect (is, on) =
        agrees_copied p.form head.rect picture known x y whole whole_known alike (rw columns on.0, rw rows on.1) agrees
    by (Source x y) Rre none = absurd none
    by (Source x y) Hextile none = absurd none
