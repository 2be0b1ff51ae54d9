-- The tiles of a block by the rule of Hextile: no others are, and fewer are no longer.
use Rattle.std.proofs.Common.{◌≡◌, ℕ, suc, ◌+◌, ◌*◌, ◌/◌, ◌%◌, ◌<◌, ◌≤◌, List, [], ◌∷◌, ◌++◌, length, get_or, refl, sym}
use Rattle.std.proofs.Common.{subst, ◌∙◌, ap, arith}
use Rattle.std.proofs.lemmas.List.{ext_get_or}
use Rattle.std.proofs.lemmas.Nat.{div-add-mod', mod_below, div_below}
use Rattle.rfb_pixel.specs.Format.{PixelFormat}
use Rattle.rfb_picture.specs.declared.rect.Rect.{Rect}
use Rattle.rfb_picture.specs.Grid.{Grid}
use Rattle.rfb_picture.proofs.GridLaws.{some_in_row, place_below}
use Rattle.rfb_codec.specs.Tile.{Tile}
use Rattle.rfb_codec.specs.Hextile.{across, tile_count, tile_width, tile_height, tile_part}
use Rattle.rfb_codec.specs.HextileRule.{Held, left_by, HasPixelsOf, IsRuleTile, IsRuleTileOf, AreRuleTiles, tile_length}
use Rattle.rfb_codec.specs.HextileRule.{tiles_length}
use Rattle.rfb_codec.proofs.HextileRuleLemmas.{rule_same}

-- the pixels of a tile are one list
same_pixels : (block : Grid ℕ) (tile : Rect) (a b : List ℕ) → length a ≡ tile.h * tile.w → length b ≡ tile.h * tile.w →
    HasPixelsOf block tile a → HasPixelsOf block tile b → a ≡ b
same_pixels block tile a b long as_long first second =
    ext_get_or 0 a b (long ∙ sym as_long)
    (λ i below.
    let within : i < tile.h * tile.w = omega (arith, below, long) in
    let some : 0 < tile.w = some_in_row i tile.h tile.w within in
    let x : i % tile.w < tile.w = mod_below i tile.w some in
    let y : i / tile.w < tile.h = div_below i tile.w tile.h some within in
    let place : i / tile.w * tile.w + i % tile.w ≡ i = div-add-mod' i tile.w in
    subst (λ (n : ℕ). get_or a n 0 ≡ get_or b n 0) place
    (first (i % tile.w) (i / tile.w) x y ∙ sym (second (i % tile.w) (i / tile.w) x y)))

-- a tile has places
pub tile_some : (w h n : ℕ) → n < tile_count w h → (0 < tile_width w n) × (0 < tile_height w h n)
tile_some w h n below =
    let some : 0 < across w = some_in_row n (across h) (across w) below in
    let column : n % across w < across w = mod_below n (across w) some in
    let row : n / across w < across h = div_below n (across w) (across h) some below in
    (omega (arith, column), omega (arith, row))

-- what tiles leave, one after another
abbrev pub left_by_all : Held → List Tile → Held
left_by_all held [] = held
left_by_all held (t ∷ tiles) = left_by_all (left_by held t) tiles

pub left_more : (held : Held) (tiles : List Tile) (t : Tile) →
    left_by_all held (tiles ++ t ∷ []) ≡ left_by (left_by_all held tiles) t
left_more held [] t = refl
left_more held (u ∷ tiles) t = left_more (left_by held u) tiles t

module _ (f : PixelFormat) (block : Grid ℕ) where
  pub one_tile : (n : ℕ) (held : Held) (t u : Tile) → n < tile_count block.width block.height →
      IsRuleTileOf f block n held t → IsRuleTileOf f block n held u → t ≡ u
  one_tile n held t u below first second =
      let tile = tile_part block.width block.height n in
      let some = tile_some block.width block.height n below in
      let corner = place_below tile.w tile.h 0 0 some.0 some.1 in
      let there : 0 < tile.h * tile.w = omega (arith, corner) in
      let pixels : first.pixels ≡ second.pixels =
      same_pixels block tile first.pixels second.pixels first.size second.size first.value second.value in
      rule_same tile.w tile.h second.pixels held f t u (omega (arith, second.size, there))
      (subst (λ (p : List ℕ). IsRuleTile f tile.w tile.h p held t) pixels first.tile_is) second.tile_is

  -- some of the tiles are no longer than all
  pub no_longer : (n : ℕ) (held : Held) (some all : List Tile) → n + length all ≤ tile_count block.width block.height →
      length some ≤ length all →
      AreRuleTiles f block n held some → AreRuleTiles f block n held all → tiles_length f some ≤ tiles_length f all
  no_longer n held [] all within less first second = omega arith
  no_longer n held (t ∷ some) [] within less first second = absurd (omega (arith, less))
  no_longer n held (t ∷ some) (u ∷ all) within less (here, first) (there, second) =
      let same = one_tile n held t u (omega (arith, within)) here there in
      let moved = subst (λ (v : Tile). AreRuleTiles f block (n + 1) (left_by held v) some) same first in
      let rest =
      no_longer (n + 1) (left_by held u) some all (omega (arith, within)) (omega (arith, less)) moved second in
      let size = ap (tile_length f) same in
      omega (arith, rest, size)

  -- one more
  pub tiles_more : (n : ℕ) (held : Held) (tiles : List Tile) (t : Tile) → AreRuleTiles f block n held tiles →
      IsRuleTileOf f block (n + length tiles) (left_by_all held tiles) t → AreRuleTiles f block n held (tiles ++ t ∷ [])
  tiles_more n held [] t all one = let none : n + 0 ≡ n = omega arith in (rw none at one, tt)
  tiles_more n held (u ∷ tiles) t (here, rest) one =
      let next : n + suc (length tiles) ≡ n + 1 + length tiles = omega arith in
      (here, tiles_more (n + 1) (left_by held u) tiles t rest (rw next at one))

  pub length_more : (tiles : List Tile) (t : Tile) →
      tiles_length f (tiles ++ t ∷ []) ≡ tiles_length f tiles + tile_length f t
  length_more [] t = omega arith
  length_more (u ∷ tiles) t = let more = length_more tiles t in omega (arith, more)
