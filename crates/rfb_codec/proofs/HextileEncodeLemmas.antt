-- Tiles put one after another show a block.
use Rattle.std.proofs.Common.{◌≡◌, ℕ, ◌+◌, ◌-◌, ◌*◌, ◌/◌, ◌%◌, ◌<◌, inl, inr, List, [], ◌∷◌, ◌++◌, true, Option, Some}
use Rattle.std.proofs.Common.{length, take, drop, map, min, get_or, slice_index, slice_index_or, refl, sym, subst, ◌∙◌}
use Rattle.std.proofs.Common.{ap, append-nil, append_assoc, arith, length-append}
use Rattle.std.proofs.Math.Nat.{mod-eq_of_lt}
use Rattle.std.proofs.Math.Seq.{get_or-append_seam}
use Rattle.std.proofs.lemmas.Bool.{cases_lt}
use Rattle.std.proofs.lemmas.List.{get_or_append_left, take-append-le, take_all, get_or-append-add, get_or-take}
use Rattle.std.proofs.lemmas.List.{get_or-drop}
use Rattle.std.proofs.lemmas.Nat.{div-mul-add, mod-mul-add, div-add-mod', mod_below}
use Rattle.rfb_pixel.specs.Format.{PixelFormat}
use Rattle.rfb_picture.proofs.GridLaws.{place_below}
use Rattle.rfb_wire.specs.stream.Prefix.{ListedAfter}
use Rattle.rfb_codec.specs.declared.subrect.Subrect.{Subrect}
use Rattle.rfb_codec.specs.declared.hextile.layout.TileLayout.TheVariants.{Raw, Plain, Colored}
use Rattle.rfb_codec.specs.Pixels.{IsPixel}
use Rattle.rfb_codec.specs.Rre.{pixel_at}
use Rattle.rfb_codec.specs.Tile.{Tile, RawTile, PlainTile, ColoredTile, background_of, foreground_of, last_of}
use Rattle.rfb_codec.specs.Tile.{colour_or_zero, in_pixel, rect_in, tile_pixel}
use Rattle.rfb_codec.specs.encoder.TileSpelling.{tile_of}
use Rattle.rfb_codec.specs.SentTile.{are_some}
use Rattle.rfb_codec.specs.Hextile.{across, tile_count, tile_width, tile_at, pixel_of_tiles}
use Rattle.rfb_codec.proofs.PixelLemmas.{pixel_number-pixels}
use Rattle.rfb_codec.proofs.TileSpellingLemmas.{IsInForce}
use Rattle.rfb_codec.proofs.CarriedLemmas.{last_of-more}

-- ---- lists

module _ {A : Type 0} where
  -- one item more after those before it
  pub listed_more : (R : List A → A → List ℕ → Type 0) (before items : List A) (a : A) (bytes more : List ℕ) →
      ListedAfter R before items bytes → R (before ++ items) a more →
      ListedAfter R before (items ++ a ∷ []) (bytes ++ more)
  listed_more R before [] a bytes more none one =
      let here : R before a more = subst (λ (xs : List A). R xs a more) (append-nil before) one in
      (more, [], ap (λ (ys : List ℕ). ys ++ more) none ∙ sym (append-nil more), here, refl)
  listed_more R before (b ∷ items) a bytes more (front, back, whole, first, rest) one =
      let others : ListedAfter R (before ++ b ∷ []) (items ++ a ∷ []) (back ++ more) =
      listed_more R (before ++ b ∷ []) items a back more rest
      (subst (λ (xs : List A). R xs a more) (sym (append_assoc before (b ∷ []) items)) one) in
      (front, back ++ more, ap (λ (ys : List ℕ). ys ++ more) whole ∙ append_assoc front back more, first, others)

-- ---- what a tile shows

-- all subrectangles have this pixel
abbrev pub AreAll : ℕ → List Subrect → Type 0
AreAll pixel [] = Unit {0}
AreAll pixel (s ∷ subs) = (s.pixel ≡ pixel) × AreAll pixel subs

same_subs : (pixel : ℕ) (subs : List Subrect) → AreAll pixel subs → map (in_pixel pixel) (map rect_in subs) ≡ subs
same_subs pixel [] all = refl
same_subs pixel (s ∷ subs) all =
    let first : in_pixel pixel s.rect ≡ s = λ i. record { pixel = sym all.0 i; rect = s.rect } in
    rw (first, same_subs pixel subs all.1) refl

-- a raw tile shows its pixels
pub shows_raw : (f : PixelFormat) (w h : ℕ) (upto : List Tile) (pixels : List ℕ) (subs : List Subrect) →
    length pixels ≡ h * w → ((i : ℕ) → IsPixel f (slice_index pixels i)) → (x y : ℕ) → x < w → y < h →
    tile_pixel f w upto (tile_of f Raw pixels subs) x y ≡ slice_index pixels (y * w + x)
shows_raw f w h upto pixels subs size small x y p q =
    let below = place_below w h x y p q in
    pixel_number-pixels f pixels (y * w + x) (omega (arith, size, below)) ∙ mod-eq_of_lt (small (y * w + x))

-- a plain one what the subrectangles show over its background
pub shows_plain : (f : PixelFormat) (w : ℕ) (before : List Tile) (background foreground : Option ℕ)
    (pixels : List ℕ) (subs : List Subrect) (b : ℕ) → IsInForce background background_of before b →
    (are_some subs ≡ true → (g : ℕ) × IsInForce foreground foreground_of before g × AreAll g subs) →
    (x y : ℕ) → tile_pixel f w (before ++ tile_of f (Plain background foreground) pixels subs ∷ [])
    (tile_of f (Plain background foreground) pixels subs) x y ≡ pixel_at b subs x y
shows_plain f w before background foreground pixels [] b in_force used x y =
    let last = last_of-more background_of before (PlainTile background foreground []) in
    rw (last, in_force) refl
shows_plain f w before background foreground pixels (s ∷ subs) b in_force used x y =
    let t = PlainTile background foreground (map rect_in (s ∷ subs)) in
    let g = used refl in
    let last : last_of background_of (before ++ t ∷ []) ≡ Some b = last_of-more background_of before t ∙ in_force in
    let last_g : last_of foreground_of (before ++ t ∷ []) ≡ Some g.0 = last_of-more foreground_of before t ∙ g.1 in
    ap (λ (c : Option ℕ). pixel_at (colour_or_zero c)
    (map (in_pixel (colour_or_zero (last_of foreground_of (before ++ t ∷ [])))) (map rect_in (s ∷ subs))) x y) last
    ∙ ap (λ (c : Option ℕ). pixel_at b (map (in_pixel (colour_or_zero c)) (map rect_in (s ∷ subs))) x y) last_g
    ∙ ap (λ (all : List Subrect). pixel_at b all x y) (same_subs g.0 (s ∷ subs) g.2)

-- and so does a coloured one
pub shows_colored : (f : PixelFormat) (w : ℕ) (before : List Tile) (background : Option ℕ)
    (pixels : List ℕ) (subs : List Subrect) (b : ℕ) → IsInForce background background_of before b →
    (x y : ℕ) → tile_pixel f w (before ++ tile_of f (Colored background) pixels subs ∷ [])
    (tile_of f (Colored background) pixels subs) x y ≡ pixel_at b subs x y
shows_colored f w before background pixels subs b in_force x y =
    let last : last_of background_of (before ++ ColoredTile background subs ∷ []) ≡ Some b =
    last_of-more background_of before (ColoredTile background subs) ∙ in_force in
    ap (λ (c : Option ℕ). pixel_at (colour_or_zero c) subs x y) last

-- ---- one tile more

-- the places of the tiles before it show what they did
pub shown_before : (f : PixelFormat) (w : ℕ) (tiles : List Tile) (t : Tile) (x y : ℕ) → tile_at w x y < length tiles →
    pixel_of_tiles f w (tiles ++ t ∷ []) x y ≡ pixel_of_tiles f w tiles x y
shown_before f w tiles t x y below =
    let n = tile_at w x y in
    let upto : take (n + 1) (tiles ++ t ∷ []) ≡ take (n + 1) tiles =
    take-append-le (n + 1) tiles (t ∷ []) (omega (arith, below)) in
    let here : slice_index_or (tiles ++ t ∷ []) n (RawTile []) ≡ slice_index_or tiles n (RawTile []) =
    get_or_append_left tiles (t ∷ []) (RawTile []) n below in
    ap (λ (k : List Tile). tile_pixel f (tile_width w n) k (slice_index_or (tiles ++ t ∷ []) n (RawTile []))
    (x % 16) (y % 16)) upto
    ∙ ap (λ (k : Tile). tile_pixel f (tile_width w n) (take (n + 1) tiles) k (x % 16) (y % 16)) here

-- its own places show what it does
pub shown_here : (f : PixelFormat) (w : ℕ) (tiles : List Tile) (t : Tile) (x y : ℕ) →
    tile_at w x y ≡ length tiles → pixel_of_tiles f w (tiles ++ t ∷ []) x y
    ≡ tile_pixel f (tile_width w (length tiles)) (tiles ++ t ∷ []) t (x % 16) (y % 16)
shown_here f w tiles t x y is =
    let all : length (tiles ++ t ∷ []) ≡ length tiles + 1 = length-append tiles (t ∷ []) in
    let upto : take (length tiles + 1) (tiles ++ t ∷ []) ≡ tiles ++ t ∷ [] =
    take_all (length tiles + 1) (tiles ++ t ∷ []) (omega (arith, all)) in
    let here : slice_index_or (tiles ++ t ∷ []) (length tiles) (RawTile []) ≡ t =
    get_or-append_seam tiles t [] (RawTile []) in
    ap (λ (n : ℕ). tile_pixel f (tile_width w n) (take (n + 1) (tiles ++ t ∷ []))
    (slice_index_or (tiles ++ t ∷ []) n (RawTile [])) (x % 16) (y % 16)) is
    ∙ ap (λ (k : List Tile). tile_pixel f (tile_width w (length tiles)) k
    (slice_index_or (tiles ++ t ∷ []) (length tiles) (RawTile [])) (x % 16) (y % 16)) upto
    ∙ ap (λ (k : Tile). tile_pixel f (tile_width w (length tiles)) (tiles ++ t ∷ []) k (x % 16) (y % 16)) here

-- ---- where tiles lie

-- a place so far along lies in a tile of those along there
pub column_below : (w x : ℕ) → x < w → x / 16 < across w
column_below w x p =
    let a = div-add-mod' x 16 in
    let b = div-add-mod' (w + 15) 16 in
    let c = mod_below (w + 15) 16 (omega arith) in
    elim (cases_lt (x / 16) ((w + 15) / 16)) [ inl l ↦ l | inr l ↦ omega (arith, a, b, c, l) ]

-- the column of tiles that a place's tile is in, and its row
pub column_of : (w x y : ℕ) → x < w → tile_at w x y % across w ≡ x / 16
column_of w x y p = mod-mul-add (y / 16) (across w) (x / 16) (column_below w x p)

pub row_of_tiles : (w x y : ℕ) → x < w → tile_at w x y / across w ≡ y / 16
row_of_tiles w x y p = div-mul-add (y / 16) (across w) (x / 16) (column_below w x p)

-- a place lies in its tile
pub in_tile : (n side x : ℕ) → n ≡ x / 16 → x < side → (n * 16 + x % 16 ≡ x) × (x % 16 < min 16 (side - n * 16))
in_tile n side x is p =
    let whole = div-add-mod' x 16 in
    let low = mod_below x 16 (omega arith) in
    let place : n * 16 + x % 16 ≡ x = rw is whole in
    (place, omega (arith, place, low))

-- each place lies in one of the tiles
pub tile_below : (w h x y : ℕ) → x < w → y < h → tile_at w x y < tile_count w h
tile_below w h x y p q = place_below (across w) (across h) (x / 16) (y / 16) (column_below w x p) (column_below h y q)

-- ---- the pixels of a tile

-- one row more of a tile is copied out of a block
pub cut_more : (n w left top columns : ℕ) (old row places : List ℕ) → length old ≡ n * w → length row ≡ w →
    ((x : ℕ) → x < w → get_or row x 0 ≡ get_or places ((top + n) * columns + (left + x)) 0) → ((x y : ℕ) →
    x < w → y < n → get_or old (y * w + x) 0 ≡ get_or places ((top + y) * columns + (left + x)) 0) → (x y : ℕ) → x < w →
    y < n + 1 → get_or (old ++ row) (y * w + x) 0 ≡ get_or places ((top + y) * columns + (left + x)) 0
cut_more n w left top columns old row places size wide here before x y p q = elim (cases_lt y n) [
  | inl above ↦
      let below = place_below w n x y p above in
      get_or_append_left old row 0 (y * w + x) (omega (arith, size, below)) ∙ before x y p above
  | inr from ↦
      let same : y ≡ n = omega arith in
      rw same (ap (λ (k : ℕ). get_or (old ++ row) (k + x) 0) (sym size) ∙ get_or-append-add old row x 0 ∙ here x p)
]

-- a row of a block
pub row_at : (places : List ℕ) (start size n x : ℕ) → n ≡ size → x < size →
    get_or (take n (drop start places)) x 0 ≡ get_or places (start + x) 0
row_at places start size n x same p = get_or-take n (drop start places) x 0 (omega arith) ∙ get_or-drop start places x 0
