-- What a tile's bytes give: its subrectangles, and the colours seen after it.
use Rattle.std.proofs.Common.{◌≡◌, ℕ, zero, suc, ◌+◌, ◌*◌, ◌<◌, ◌≤◌, List, [], ◌∷◌, ◌++◌, Bool, true, false, Option}
use Rattle.std.proofs.Common.{length, take, drop, map, refl, sym, subst, ◌∙◌, ap, arith, length-drop}
use Rattle.std.proofs.lemmas.List.{drop-drop}
use Rattle.rfb_pixel.specs.Format.{PixelFormat, size_of}
use Rattle.rfb_picture.specs.declared.rect.Rect.{Rect}
use Rattle.rfb_wire.specs.RectHead.{IsOnScreen}
use Rattle.rfb_codec.specs.declared.subrect.Subrect.{Subrect}
use Rattle.rfb_codec.specs.declared.hextile.layout.TileLayout.{TileLayout}
use Rattle.rfb_codec.specs.declared.hextile.layout.TileLayout.TheVariants.{Raw, Plain, Colored}
use Rattle.rfb_codec.specs.declared.hextile.paint.tile_read.Seen.{Seen}
use Rattle.rfb_codec.specs.Tile.{Tile, background_of, foreground_of, later, last_of, AreInside, place_of, colored_of}
use Rattle.rfb_codec.specs.Tile.{rect_in, in_pixel}
use Rattle.rfb_codec.specs.decoder.TileRead.{values_in, tile_in, background_named, foreground_named, sub_after, subs_in}
use Rattle.rfb_codec.specs.decoder.TileRead.{AreSubsInside}
use Rattle.rfb_codec.specs.Stage.{Sees}
use Rattle.rfb_codec.proofs.CarriedLemmas.{last_of-more}

-- ---- subrectangles

module _ {A : Type 0} where
  -- one value more
  values_in-more : (value : List ℕ → A) (unit n : ℕ) (bytes : List ℕ) → values_in value unit (suc n) bytes
      ≡ values_in value unit n bytes ++ value (take unit (drop (n * unit) bytes)) ∷ []
  values_in-more value unit zero bytes = let none : 0 * unit ≡ 0 = omega arith in rw none refl
  values_in-more value unit (suc n) bytes =
      let more = values_in-more value unit n (drop unit bytes) in
      let far : drop (n * unit) (drop unit bytes) ≡ drop (suc n * unit) bytes =
      drop-drop (n * unit) unit bytes ∙ ap (λ (k : ℕ). drop k bytes) (omega arith) in
      ap (λ (xs : List A). value (take unit bytes) ∷ xs)
      (more ∙ ap (λ (ys : List ℕ). values_in value unit n (drop unit bytes) ++ value (take unit ys) ∷ []) far)

map-more : (g : ℕ) (xs : List Rect) (r : Rect) →
    map (in_pixel g) (xs ++ r ∷ []) ≡ map (in_pixel g) xs ++ in_pixel g r ∷ []
map-more g [] r = refl
map-more g (x ∷ xs) r = ap (λ (ys : List Subrect). in_pixel g x ∷ ys) (map-more g xs r)

-- no subrectangles
pub subs_in-none : (f : PixelFormat) (g : ℕ) (colored : Bool) (list : List ℕ) → [] ≡ subs_in f g colored 0 list
subs_in-none f g false list = refl
subs_in-none f g true list = refl

-- one subrectangle more
pub subs_in-more : (f : PixelFormat) (g : ℕ) (colored : Bool) (n : ℕ) (list : List ℕ) →
    subs_in f g colored n list ++ sub_after f g colored n list ∷ [] ≡ subs_in f g colored (n + 1) list
subs_in-more f g false n list =
    let number : suc n ≡ n + 1 = omega arith in
    sym (map-more g (values_in place_of 2 n list) (place_of (take 2 (drop (n * 2) list))))
    ∙ ap (map (in_pixel g)) (sym (values_in-more place_of 2 n list))
    ∙ ap (λ (m : ℕ). map (in_pixel g) (values_in place_of 2 m list)) number
subs_in-more f g true n list =
    let number : suc n ≡ n + 1 = omega arith in
    sym (values_in-more (colored_of f) (size_of f + 2) n list)
    ∙ ap (λ (m : ℕ). values_in (colored_of f) (size_of f + 2) m list) number

-- of places that lie inside each does
inside_at : (w h : ℕ) (value : List ℕ → Rect) (unit count : ℕ) (list : List ℕ) (n : ℕ) → n < count →
    AreInside w h (values_in value unit count list) → IsOnScreen w h (value (take unit (drop (n * unit) list)))
inside_at w h value unit zero list n below all = absurd (omega arith)
inside_at w h value unit (suc count) list zero below all =
    let none : zero * unit ≡ 0 = omega arith in
    subst (λ (k : ℕ). IsOnScreen w h (value (take unit (drop k list)))) (sym none) all.0
inside_at w h value unit (suc count) list (suc n) below all =
    let far : drop (n * unit) (drop unit list) ≡ drop (suc n * unit) list =
    drop-drop (n * unit) unit list ∙ ap (λ (k : ℕ). drop k list) (omega arith) in
    subst (λ (ys : List ℕ). IsOnScreen w h (value (take unit ys))) far
    (inside_at w h value unit count (drop unit list) n (omega arith) all.1)

map_values : (f : PixelFormat) (unit n : ℕ) (list : List ℕ) →
    map rect_in (values_in (colored_of f) unit n list) ≡ values_in (λ bytes. rect_in (colored_of f bytes)) unit n list
map_values f unit zero list = refl
map_values f unit (suc n) list =
    ap (λ (xs : List Rect). rect_in (colored_of f (take unit list)) ∷ xs) (map_values f unit n (drop unit list))

-- a list that ends where the bytes end, or before, is there
pub list_left : (list n used : ℕ) (bytes : List ℕ) → used ≡ list + n → used ≤ length bytes →
    n ≤ length (drop list bytes)
list_left list n used bytes end within = omega (arith, end, within, length-drop list bytes)

pub plain_inside : (f : PixelFormat) (w h g count : ℕ) (list : List ℕ) → count * 2 ≤ length list →
    AreInside w h (values_in place_of 2 count list) → AreSubsInside f w h g false count list
plain_inside f w h g count list enough all =
    record { enough = enough; inside = λ n below. inside_at w h place_of 2 count list n below all }

pub colored_inside : (f : PixelFormat) (w h g count : ℕ) (list : List ℕ) → count * (size_of f + 2) ≤ length list →
    AreInside w h (map rect_in (values_in (colored_of f) (size_of f + 2) count list)) →
    AreSubsInside f w h g true count list
colored_inside f w h g count list enough all =
    let places : AreInside w h (values_in (λ bytes. rect_in (colored_of f bytes)) (size_of f + 2) count list) =
    subst (AreInside w h) (map_values f (size_of f + 2) count list) all in
    record {
      enough = enough;
      inside =
          λ n below. inside_at w h (λ bytes. rect_in (colored_of f bytes)) (size_of f + 2) count list n below places;
    }

-- ---- colours seen

named_background : (f : PixelFormat) (w h : ℕ) (layout : TileLayout) (list count : ℕ) (bytes : List ℕ) →
    background_of (tile_in f w h layout list count bytes) ≡ background_named layout
named_background f w h Raw list count bytes = refl
named_background f w h (Plain background foreground) list count bytes = refl
named_background f w h (Colored background) list count bytes = refl

named_foreground : (f : PixelFormat) (w h : ℕ) (layout : TileLayout) (list count : ℕ) (bytes : List ℕ) →
    foreground_of (tile_in f w h layout list count bytes) ≡ foreground_named layout
named_foreground f w h Raw list count bytes = refl
named_foreground f w h (Plain background foreground) list count bytes = refl
named_foreground f w h (Colored background) list count bytes = refl

-- those of one tile more
pub sees_more : (f : PixelFormat) (w h : ℕ) (before : List Tile)
    (seen next : Seen) (layout : TileLayout) (list count : ℕ) (bytes : List ℕ) →
    Sees before seen → next.background ≡ later (background_named layout) seen.background → next.foreground
    ≡ later (foreground_named layout) seen.foreground → Sees (before ++ tile_in f w h layout list count bytes ∷ []) next
sees_more f w h before seen next layout list count bytes old background foreground =
    let t = tile_in f w h layout list count bytes in
    record {
      background = background ∙ ap (λ (b : Option ℕ). later (background_named layout) b) old.background
          ∙ ap (λ (b : Option ℕ). later b (last_of background_of before))
          (sym (named_background f w h layout list count bytes)) ∙ sym (last_of-more background_of before t);
      foreground = foreground ∙ ap (λ (b : Option ℕ). later (foreground_named layout) b) old.foreground
          ∙ ap (λ (b : Option ℕ). later b (last_of foreground_of before))
          (sym (named_foreground f w h layout list count bytes)) ∙ sym (last_of-more foreground_of before t);
    }
