-- The tiles of a rectangle share out its places.
use Rattle.std.proofs.Common.{◌≡◌, ℕ, ◌+◌, ◌-◌, ◌*◌, ◌/◌, ◌%◌, ◌<◌, ◌≤◌, min, true, ◌∙◌, ap, arith}
use Rattle.std.proofs.lemmas.Nat.{div-add-mod', div-mul-add, mod_below, div_below}
use Rattle.rfb_picture.specs.Rect.{contains}
use Rattle.rfb_picture.proofs.GridLaws.{contains_true, some_in_row}
use Rattle.rfb_picture.proofs.GridLaws.{contains_row}
use Rattle.rfb_codec.specs.Hextile.{across, tile_count, tile_width, tile_height, tile_part, tile_at}
use Rattle.rfb_codec.proofs.HextileEncodeLemmas.{column_of, row_of_tiles, in_tile}

-- a place lies in the tile that it is said to lie in, and where
pub in_its_tile : (w h x y : ℕ) → x < w → y < h → contains (tile_part w h (tile_at w x y)) x y ≡ true
in_its_tile w h x y p q =
    let n = tile_at w x y in
    let column = column_of w x y p in
    let row = row_of_tiles w x y p in
    let a = in_tile (n % across w) w x column p in
    let b = in_tile (n / across w) h y row q in
    contains_row (tile_part w h n) x y (omega (arith, a)) (omega (arith, a)) (omega (arith, b)) (omega (arith, b))

-- and in no other
pub in_no_other : (w h n x y : ℕ) → contains (tile_part w h n) x y ≡ true → tile_at w x y ≡ n
in_no_other w h n x y here =
    let edges = contains_true (tile_part w h n) x y here in
    let a = n % across w in
    let b = n / across w in
    let left : x ≡ a * 16 + (x - a * 16) = omega (arith, edges) in
    let top : y ≡ b * 16 + (y - b * 16) = omega (arith, edges) in
    let narrow : x - a * 16 < 16 = omega (arith, edges) in
    let short : y - b * 16 < 16 = omega (arith, edges) in
    let column : x / 16 ≡ a = ap (λ (k : ℕ). k / 16) left ∙ div-mul-add a 16 (x - a * 16) narrow in
    let row : y / 16 ≡ b = ap (λ (k : ℕ). k / 16) top ∙ div-mul-add b 16 (y - b * 16) short in
    rw (column, row) (div-add-mod' n (across w))

-- in the tile it is numbered from the tile's corner
pub place_in_tile : (w h x y : ℕ) → x < w → y < h →
    (x - (tile_part w h (tile_at w x y)).x ≡ x % 16) × (y - (tile_part w h (tile_at w x y)).y ≡ y % 16)
place_in_tile w h x y p q =
    let n = tile_at w x y in
    let a = in_tile (n % across w) w x (column_of w x y p) p in
    let b = in_tile (n / across w) h y (row_of_tiles w x y p) q in
    (omega (arith, a), omega (arith, b))

-- each tile has a place, and lies in the rectangle
pub tile_inside : (w h n : ℕ) → n < tile_count w h → (0 < tile_width w n) × (0 < tile_height w h n)
    × (n % across w * 16 + tile_width w n ≤ w) × (n / across w * 16 + tile_height w h n ≤ h)
tile_inside w h n below =
    let some : 0 < across w = some_in_row n (across h) (across w) below in
    let column = mod_below n (across w) some in
    let row = div_below n (across w) (across h) some below in
    let a = side w (n % across w) column in
    let b = side h (n / across w) row in
    (a.0, b.0, a.1, b.1)
  where
    side : (places k : ℕ) → k < across places →
        (0 < min 16 (places - k * 16)) × (k * 16 + min 16 (places - k * 16) ≤ places)
    side places k less =
        let whole = div-add-mod' (places + 15) 16 in
        let low = mod_below (places + 15) 16 (omega arith) in
        (omega (arith, whole, low, less), omega (arith, whole, low, less))
