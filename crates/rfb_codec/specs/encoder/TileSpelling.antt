-- How an encoder spells a tile of Hextile: the value that it sends, and the bytes.
-- No public clause reads these words.
use Rattle.std.specs.Prelude.{ℕ, ◌≤◌, List, [], ◌∷◌, ◌++◌, map, bit_or}
use Rattle.std.specs.List.{flat_map}
use Rattle.rfb_pixel.specs.Format.{PixelFormat, pixel_bytes}
use Rattle.rfb_codec.specs.declared.subrect.Subrect.{Subrect}
use Rattle.rfb_codec.specs.declared.hextile.layout.TileLayout.{TileLayout}
use Rattle.rfb_codec.specs.declared.hextile.layout.TileLayout.TheVariants.{Raw, Plain, Colored}
use Rattle.rfb_wire.specs.RectHead.{IsOnScreen}
use Rattle.rfb_codec.specs.Pixels.{IsPixel}
use Rattle.rfb_codec.specs.Tile.{Tile, RawTile, PlainTile, ColoredTile, rect_in}
use Rattle.rfb_codec.specs.SentTile.{bit_if, is_there, are_some, colour_bytes, place_bytes, colored_bytes}
use Rattle.rfb_codec.specs.SentTile.{counted_bytes}

-- the tile that is sent of these pixels, or of these subrectangles
abbrev pub tile_of : PixelFormat → TileLayout → List ℕ → List Subrect → Tile
tile_of f Raw pixels subs = RawTile (flat_map (pixel_bytes f) pixels)
tile_of f (Plain background foreground) pixels subs =
    PlainTile background foreground (map rect_in subs)
tile_of f (Colored background) pixels subs = ColoredTile background subs

-- ---- its bytes

-- a mask with these bits; SubrectsColored and ForegroundSpecified are never both set
abbrev pub mask_of : TileLayout → List Subrect → ℕ
mask_of Raw subs = 1
mask_of (Plain background foreground) subs =
    bit_or (bit_or (bit_if 2 (is_there background)) (bit_if 4 (is_there foreground)))
    (bit_if 8 (are_some subs))
mask_of (Colored background) subs =
    bit_or (bit_or (bit_if 2 (is_there background)) (bit_if 8 (are_some subs))) 16

-- a subrectangle's place and size
abbrev pub own_place : Subrect → List ℕ
own_place s = place_bytes s.rect

-- what follows the mask
abbrev pub after_bytes : PixelFormat → TileLayout → List ℕ → List Subrect → List ℕ
after_bytes f Raw pixels subs = flat_map (pixel_bytes f) pixels
after_bytes f (Plain background foreground) pixels subs =
    colour_bytes f background ++ (colour_bytes f foreground ++ counted_bytes own_place subs)
after_bytes f (Colored background) pixels subs =
    colour_bytes f background ++ counted_bytes (colored_bytes f) subs

-- the bytes of the tile
abbrev pub tile_bytes : PixelFormat → TileLayout → List ℕ → List Subrect → List ℕ
tile_bytes f layout pixels subs = mask_of layout subs ∷ after_bytes f layout pixels subs

-- ---- what the subrectangles of a tile have to be

-- it has a place, all of them in a tile of that size, and a pixel of the format
pub record IsTilePart (f : PixelFormat) (w h : ℕ) (s : Subrect) : Type 0 where
  pub pixel : IsPixel f s.pixel
  pub inside : IsOnScreen w h s.rect
  pub wide : 1 ≤ s.rect.w
  pub high : 1 ≤ s.rect.h

-- each of them does
abbrev pub AreTileParts : PixelFormat → ℕ → ℕ → List Subrect → Type 0
AreTileParts f w h [] = Unit {0}
AreTileParts f w h (s ∷ subs) = IsTilePart f w h s × AreTileParts f w h subs
