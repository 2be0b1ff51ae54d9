-- A block of one place: no cover is shorter than its pixel.
use Rattle.std.proofs.Common.{◌≡◌, ℕ, ◌*◌, ◌≤◌, List, [], ◌∷◌, length, inl, inr, arith}
use Rattle.std.proofs.Math.Nat.{mul-le-mul_right}
use Rattle.rfb_pixel.specs.Format.{PixelFormat, size_of}
use Rattle.rfb_picture.specs.Grid.{Grid}
use Rattle.rfb_picture.specs.declared.rect.Rect.{Rect}
use Rattle.rfb_server.specs.update.Rectangle.{AppendsIn, SendsRect}
use Rattle.rfb_wire.specs.declared.encoding.Encoding.{Encoding}
use Rattle.rfb_wire.specs.declared.encoding.Encoding.TheVariants.{Raw, CopyRect, Rre, Hextile}
use Rattle.rfb_codec.specs.Codec.{raw_of}
use Rattle.rfb_codec.specs.ByRule.{GivesUp}
use Rattle.rfb_codec.specs.Pixels.{IsSized}
use Rattle.rfb_codec.specs.Tile.{Tile}
use Rattle.rfb_codec.specs.Hextile.{tile_count, tile_part}
use Rattle.rfb_codec.specs.HextileRule.{IsDrawn, IsRuleTile, AreRuleTiles, nothing_held, tile_length, tiles_length}
use Rattle.rfb_codec.proofs.PixelLaws.{length-pixels}

one_pixel : (f : PixelFormat) (block : Grid ℕ) → IsSized 1 1 block → raw_of f block ≡ size_of f
one_pixel f block sized = rw (sized.width_is, sized.height_is) (omega arith)

-- a tile that holds no colour from before names one, or has its pixels
drawn_holds : (f : PixelFormat) (width height : ℕ) (pixels : List ℕ) (tile : Tile) →
    IsDrawn width height pixels nothing_held tile →
    size_of f ≤ tile_length f tile
drawn_holds f width height pixels tile (inl one) = rw one.tile_is (omega arith)
drawn_holds f width height pixels tile (inr (inl two)) = rw two.tile_is (omega arith)
drawn_holds f width height pixels tile (inr (inr many)) = rw many.tile_is (omega arith)

tile_holds : (f : PixelFormat) (width height : ℕ) (pixels : List ℕ) (tile : Tile) → 1 ≤ length pixels →
    IsRuleTile f width height pixels nothing_held tile →
    size_of f ≤ tile_length f tile
tile_holds f width height pixels tile some (inl drawn) = drawn_holds f width height pixels tile drawn.drawn
tile_holds f width height pixels tile some (inr raw) =
    let long = length-pixels f pixels in
    let whole : 1 * size_of f ≤ length pixels * size_of f = mul-le-mul_right (size_of f) some in
    rw raw.tile_is (omega (arith, long, whole))

tiles_hold : (f : PixelFormat) (block : Grid ℕ) (tiles : List Tile) → IsSized 1 1 block →
    length tiles ≡ tile_count block.width block.height →
    AreRuleTiles f block 0 nothing_held tiles → size_of f ≤ tiles_length f tiles
tiles_hold f block [] sized number rule =
    let none : 0 ≡ 1 = rw (sized.width_is, sized.height_is) at number in
    absurd (omega (arith, none))
tiles_hold f block (tile ∷ tiles) sized number rule =
    let first = rule.0 in
    let size : length first.pixels ≡ 1 = rw (sized.width_is, sized.height_is) at first.size in
    omega (
      arith,
      tile_holds f (tile_part block.width block.height 0).w (tile_part block.width block.height 0).h first.pixels tile
          (omega (arith, size)) first.tile_is,
    )

pub single_gives_up : (f : PixelFormat) (block : Grid ℕ) → IsSized 1 1 block →
    GivesUp Rre f block × GivesUp Hextile f block
single_gives_up f block sized =
    let raw = one_pixel f block sized in (
      λ background subs _. omega (arith, raw),
      λ tiles number rule. omega (arith, raw, tiles_hold f block tiles sized number rule),
    )

-- so Raw takes its place
pub single_sent : (f : PixelFormat) (rect : Rect) (encoding : Encoding) (block : Grid ℕ) (old new : List ℕ) →
    IsSized 1 1 block →
    AppendsIn f rect Raw block old new → SendsRect f rect encoding block old new
single_sent f rect Raw block old new sized appended = inl ((λ gives. gives), appended)
single_sent f rect CopyRect block old new sized appended = inr (tt, appended)
single_sent f rect Rre block old new sized appended = inr ((single_gives_up f block sized).0, appended)
single_sent f rect Hextile block old new sized appended = inr ((single_gives_up f block sized).1, appended)
