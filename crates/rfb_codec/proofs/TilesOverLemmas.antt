-- Tiles painted one after another into a picture.
use Rattle.std.proofs.Common.{◌≡◌, ◌≢◌, ℕ, ◌+◌, ◌-◌, ◌*◌, ◌/◌, ◌%◌, ◌<◌, ◌≤◌, ◌&&◌, nat_lt, List, [], ◌∷◌, ◌++◌, Bool}
use Rattle.std.proofs.Common.{true, false, if◌then◌else◌, length, take, slice_index_or, refl, sym, ◌∙◌, ap}
use Rattle.std.proofs.Common.{append_assoc, arith, length-append}
use Rattle.std.proofs.lemmas.List.{take_at}
use Rattle.std.proofs.Math.Seq.{get_or-append_seam}
use Rattle.std.proofs.lemmas.Nat.{div-add-mod', div-mul-add}
use Rattle.std.proofs.lemmas.Bool.Decides.{nat_tests}
use Rattle.rfb_pixel.specs.declared.colour.Colour.{Colour}
use Rattle.rfb_pixel.specs.Format.{PixelFormat, colour_of}
use Rattle.rfb_picture.specs.declared.rect.Rect.{Rect}
use Rattle.rfb_picture.specs.Rect.{contains}
use Rattle.rfb_picture.specs.Grid.{Grid, IsGrid, at_or}
use Rattle.rfb_picture.proofs.GridLaws.{changed_twice, same_changes, contains_true}
use Rattle.rfb_wire.specs.RectHead.{IsOnScreen}
use Rattle.rfb_codec.specs.Tile.{Tile, RawTile, tile_pixel}
use Rattle.rfb_codec.specs.Hextile.{across, tile_count, tile_width, tile_height, tile_at, pixel_of_tiles}
use Rattle.rfb_codec.specs.Painter.{over}
use Rattle.rfb_codec.specs.Front.{tiles_over}
use Rattle.rfb_codec.proofs.HextileEncodeLemmas.{column_of, row_of_tiles, in_tile, tile_below}
use Rattle.rfb_codec.proofs.PaintLemmas.{over_all}
use Rattle.rfb_codec.proofs.PaintRreLemmas.{moved}

-- ---- what is painted

-- all tiles, over the whole rectangle
pub tiles_all : (f : PixelFormat) (rect : Rect) (tiles : List Tile) (g : Grid Colour) → IsGrid g → tiles_over f rect
    (tile_count rect.w rect.h) tiles g ≡ over rect (λ x y. colour_of f (pixel_of_tiles f rect.w tiles x y)) g
tiles_all f rect tiles g whole =
    over_all rect (λ x y. nat_lt (tile_at rect.w x y) (tile_count rect.w rect.h))
    (λ x y. colour_of f (pixel_of_tiles f rect.w tiles x y)) g whole
    (λ x y p q. let below = tile_below rect.w rect.h x y p q in grind (arith, nat_tests))

-- the rectangle of a tile
pub record IsTileRect (rect tile : Rect) (n : ℕ) : Type 0 where
  pub column : tile.x ≡ n % across rect.w * 16
  pub row : tile.y ≡ n / across rect.w * 16
  pub width : tile.w ≡ tile_width rect.w n
  pub height : tile.h ≡ tile_height rect.w rect.h n

-- it holds the places whose tile it is
pub tile_holds : (rect tile : Rect) (n x y : ℕ) → IsTileRect rect tile n → contains rect x y ≡ true →
    contains (moved rect tile) x y ≡ true → tile_at rect.w (x - rect.x) (y - rect.y) ≡ n
tile_holds rect tile n x y is inside here =
    let outer = contains_true rect x y inside in
    let inner = contains_true (moved rect tile) x y here in
    let i = x - rect.x in
    let j = y - rect.y in
    let a = n % across rect.w in
    let b = n / across rect.w in
    let left : i ≡ a * 16 + (i - a * 16) = omega (arith, is.column) in
    let top : j ≡ b * 16 + (j - b * 16) = omega (arith, is.row) in
    let narrow : i - a * 16 < 16 = omega (arith, is.column, is.width) in
    let short : j - b * 16 < 16 = omega (arith, is.row, is.height) in
    let column : i / 16 ≡ a = ap (λ (k : ℕ). k / 16) left ∙ div-mul-add a 16 (i - a * 16) narrow in
    let row : j / 16 ≡ b = ap (λ (k : ℕ). k / 16) top ∙ div-mul-add b 16 (j - b * 16) short in
    rw (column, row) (div-add-mod' n (across rect.w))

pub holds_tile : (rect tile : Rect) (n x y : ℕ) → IsTileRect rect tile n → contains rect x y ≡ true →
    tile_at rect.w (x - rect.x) (y - rect.y) ≡ n → contains (moved rect tile) x y ≡ true
holds_tile rect tile n x y is inside at =
    let outer = contains_true rect x y inside in
    let i = x - rect.x in
    let j = y - rect.y in
    let p : i < rect.w = omega arith in
    let q : j < rect.h = omega arith in
    let column : n % across rect.w ≡ i / 16 = ap (λ (k : ℕ). k % across rect.w) (sym at) ∙ column_of rect.w i j p in
    let row : n / across rect.w ≡ j / 16 = ap (λ (k : ℕ). k / across rect.w) (sym at) ∙ row_of_tiles rect.w i j p in
    let across_it = in_tile (n % across rect.w) rect.w i column p in
    let down_it = in_tile (n / across rect.w) rect.h j row q in
    let left = is.column in
    let top = is.row in
    let wide = is.width in
    let high = is.height in
    let a : rect.x + tile.x ≤ x = omega (arith, across_it.0, left) in
    let b : x < rect.x + tile.x + tile.w = omega (arith, across_it.0, across_it.1, left, wide) in
    let c : rect.y + tile.y ≤ y = omega (arith, down_it.0, top) in
    let e : y < rect.y + tile.y + tile.h = omega (arith, down_it.0, down_it.1, top, high) in
    grind (arith, nat_tests)

-- the pixel of a place in the n-th tile
pixel_of_tile : (f : PixelFormat) (w : ℕ) (before after : List Tile) (t : Tile) (n i j : ℕ) →
    length before ≡ n → tile_at w i j ≡ n →
    pixel_of_tiles f w (before ++ t ∷ after) i j ≡ tile_pixel f (tile_width w n) (before ++ t ∷ []) t (i % 16) (j % 16)
pixel_of_tile f w before after t n i j size at =
    let tiles = before ++ t ∷ after in
    let split : tiles ≡ (before ++ t ∷ []) ++ after = sym (append_assoc before (t ∷ []) after) in
    let long : length (before ++ t ∷ []) ≡ n + 1 = length-append before (t ∷ []) ∙ ap (λ (k : ℕ). k + 1) size in
    let upto : take (n + 1) tiles ≡ before ++ t ∷ [] =
    ap (take (n + 1)) split ∙ take_at (before ++ t ∷ []) after (n + 1) long in
    let here : slice_index_or tiles n (RawTile []) ≡ t = ap (λ (k : ℕ). slice_index_or tiles k (RawTile [])) (sym size)
    ∙ get_or-append_seam before t after (RawTile []) in
    ap (λ (k : ℕ). tile_pixel f (tile_width w k) (take (k + 1) tiles)
    (slice_index_or tiles k (RawTile [])) (i % 16) (j % 16)) at
    ∙ ap (λ (all : List Tile). tile_pixel f (tile_width w n) all
    (slice_index_or tiles n (RawTile [])) (i % 16) (j % 16)) upto
    ∙ ap (λ (k : Tile). tile_pixel f (tile_width w n) (before ++ t ∷ []) k (i % 16) (j % 16)) here

place_more : {A : Type 0} (here inside : Bool) (m n : ℕ) (c p old : A) →
    (here ≡ true → (inside ≡ true) × (m ≡ n) × (c ≡ p)) → (here ≡ false → inside ≡ true → m ≢ n) →
    (if here then c else (if inside && nat_lt m n then p else old)) ≡ (if inside && nat_lt m (n + 1) then p else old)
place_more true inside m n c p old yes_it no_it =
    let h = yes_it refl in
    let last : nat_lt m (n + 1) ≡ true = let e = h.1 in grind (arith, nat_tests) in
    rw (h.0, last) (h.2)
place_more false true m n c p old yes_it no_it =
    let other = no_it refl refl in
    let same : nat_lt m (n + 1) ≡ nat_lt m n = grind (arith, nat_tests) in
    rw same refl
place_more false false m n c p old yes_it no_it = refl

-- one tile more
pub tile_over : (f : PixelFormat) (rect tile : Rect) (n : ℕ) (before after : List Tile) (t : Tile) (g : Grid Colour) →
    IsGrid g → IsTileRect rect tile n → IsOnScreen rect.w rect.h tile →
    length before ≡ n → over (moved rect tile) (λ x y. colour_of f (tile_pixel f tile.w (before ++ t ∷ []) t x y))
    (tiles_over f rect n (before ++ t ∷ after) g) ≡ tiles_over f rect (n + 1) (before ++ t ∷ after) g
tile_over f rect tile n before after t g whole is on size =
    changed_twice _ _ g
    ∙ same_changes _ _ g whole
    (λ x y d p q.
    let i = x - rect.x in
    let j = y - rect.y in
    let c = colour_of f (tile_pixel f tile.w (before ++ t ∷ []) t (x - (rect.x + tile.x)) (y - (rect.y + tile.y))) in
    place_more (contains (moved rect tile) x y) (contains rect x y) (tile_at rect.w i j) n c
    (colour_of f (pixel_of_tiles f rect.w (before ++ t ∷ after) i j)) (at_or g x y d)
    (λ e.
    let inner = contains_true (moved rect tile) x y e in
    let inside : contains rect x y ≡ true = within on inner in
    let at = tile_holds rect tile n x y is inside e in
    let outer = contains_true rect x y inside in
    let column : n % across rect.w ≡ i / 16 =
    ap (λ (k : ℕ). k % across rect.w) (sym at) ∙ column_of rect.w i j (omega arith) in
    let row : n / across rect.w ≡ j / 16 =
    ap (λ (k : ℕ). k / across rect.w) (sym at) ∙ row_of_tiles rect.w i j (omega arith) in
    let across_it = in_tile (n % across rect.w) rect.w i column (omega arith) in
    let down_it = in_tile (n / across rect.w) rect.h j row (omega arith) in
    let x_is : x - (rect.x + tile.x) ≡ i % 16 = omega (arith, across_it.0, is.column) in
    let y_is : y - (rect.y + tile.y) ≡ j % 16 = omega (arith, down_it.0, is.row) in
    let pixel : tile_pixel f tile.w (before ++ t ∷ []) t (x - (rect.x + tile.x)) (y - (rect.y + tile.y))
    ≡ pixel_of_tiles f rect.w (before ++ t ∷ after) i j =
    rw (x_is, y_is, is.width) (sym (pixel_of_tile f rect.w before after t n i j size at)) in
    (inside, at, ap (colour_of f) pixel))
    (λ e inside at. let here = holds_tile rect tile n x y is inside at in cc))
  where
    within : {x y : ℕ} → IsOnScreen rect.w rect.h tile →
        ((moved rect tile).x ≤ x) × (x < (moved rect tile).x + (moved rect tile).w) × ((moved rect tile).y ≤ y)
        × (y < (moved rect tile).y + (moved rect tile).h) → contains rect x y ≡ true
    within on inner =
        let a = on.0 in
        let b = on.1 in
        let c = inner.0 in
        let e = inner.1 in
        let g' = inner.2 in
        let h = inner.3 in
        grind (arith, nat_tests)
