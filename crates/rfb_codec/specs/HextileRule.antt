-- This project's rule for senders of Hextile: how each tile is sent, by its pixels and by the
-- colours that the tiles before it leave, and when a block is given up.
use Rattle.std.specs.Prelude.{◌≡◌, ◌≢◌, ℕ, ◌+◌, ◌*◌, ◌<◌, ◌≤◌, ◌==◌, ◌⊎◌, List, [], ◌∷◌, length, map, slice_index}
use Rattle.std.specs.Prelude.{Option, Some, None, if◌then◌else◌}
use Rattle.std.specs.List.{flat_map}
use Rattle.rfb_pixel.specs.Format.{PixelFormat, size_of, pixel_bytes}
use Rattle.rfb_picture.specs.declared.rect.Rect.{Rect}
use Rattle.rfb_picture.specs.Grid.{Grid}
use Rattle.rfb_codec.specs.declared.subrect.Subrect.{Subrect}
use Rattle.rfb_codec.specs.Raw.{raw_length}
use Rattle.rfb_codec.specs.Codec.{raw_of}
use Rattle.rfb_codec.specs.Choice.{IsPixelOf, IsBackground, AreRuleSubs}
use Rattle.rfb_codec.specs.Tile.{Tile, RawTile, PlainTile, ColoredTile, later, rect_in}
use Rattle.rfb_codec.specs.SentTile.{sent_as}
use Rattle.rfb_codec.specs.Hextile.{tile_count, tile_part, StandsHextile, CarriesColours}

-- ---- colours that are held

-- the background and the foreground that a tile may use without naming them, where there are
pub record Held : Type 0 where
  pub background : Option ℕ
  pub foreground : Option ℕ

abbrev pub nothing_held : Held
nothing_held = record { background = None; foreground = None }

-- a colour is named where it is not the one that is held
abbrev pub named_in : Option ℕ → ℕ → Option ℕ
named_in None colour = Some colour
named_in (Some held) colour = if held == colour then None else Some colour

-- what a tile leaves: nothing if it is raw, and no foreground if it is coloured
abbrev pub left_by : Held → Tile → Held
left_by held (RawTile pixels) = nothing_held
left_by held (PlainTile background foreground places) =
    record {
      background = later background held.background;
      foreground = later foreground held.foreground;
    }
left_by held (ColoredTile background subs) =
    record { background = later background held.background; foreground = None }

-- ---- a tile over its background

-- all places have one pixel: it is the background
pub record IsOnePixel (pixels : List ℕ) (held : Held) (tile : Tile) : Type 0 where
  pub background : ℕ
  pub all : (i : ℕ) → i < length pixels → slice_index pixels i ≡ background
  pub tile_is : tile ≡ PlainTile (named_in held.background background) None []

-- the places have two pixels: the one that is not the background is the foreground
pub record IsTwoPixels (width height : ℕ) (pixels : List ℕ) (held : Held) (tile : Tile)
    : Type 0 where
  pub background : ℕ
  pub foreground : ℕ
  pub subs : List Subrect
  pub chosen : IsBackground pixels background
  pub there : IsPixelOf pixels foreground
  pub differ : foreground ≢ background
  pub both : (i : ℕ) → i < length pixels →
      (slice_index pixels i ≡ background) ⊎ (slice_index pixels i ≡ foreground)
  pub rule : AreRuleSubs width height pixels background subs
  pub tile_is : tile ≡
      PlainTile (named_in held.background background) (named_in held.foreground foreground)
      (map rect_in subs)

-- some place has neither of two pixels, which differ and are there
pub record HasThird (pixels : List ℕ) : Type 0 where
  pub first : ℕ
  pub second : ℕ
  pub third : ℕ
  pub has_first : IsPixelOf pixels first
  pub has_second : IsPixelOf pixels second
  pub has_third : IsPixelOf pixels third
  pub differ : first ≢ second
  pub not_first : third ≢ first
  pub not_second : third ≢ second

-- there are more: each subrectangle has a pixel of its own
pub record IsManyPixels (width height : ℕ) (pixels : List ℕ) (held : Held) (tile : Tile)
    : Type 0 where
  pub background : ℕ
  pub subs : List Subrect
  pub chosen : IsBackground pixels background
  pub more : HasThird pixels
  pub rule : AreRuleSubs width height pixels background subs
  pub tile_is : tile ≡ ColoredTile (named_in held.background background) subs

-- the tile over its background
abbrev pub IsDrawn : ℕ → ℕ → List ℕ → Held → Tile → Type 0
IsDrawn width height pixels held tile =
    IsOnePixel pixels held tile ⊎
    (IsTwoPixels width height pixels held tile ⊎ IsManyPixels width height pixels held tile)

-- ---- its length

-- how many bytes a colour has, if it is named
abbrev pub colour_length : PixelFormat → Option ℕ → ℕ
colour_length f None = 0
colour_length f (Some colour) = size_of f

-- how many the parts of a tile have, of `size` bytes each, and the byte that counts them
abbrev pub parts_length : {A : Type 0} → ℕ → List A → ℕ
parts_length size [] = 0
parts_length size (part ∷ parts) = 1 + length (part ∷ parts) * size

-- how many the tile has
abbrev pub tile_length : PixelFormat → Tile → ℕ
tile_length f (RawTile pixels) = 1 + length pixels
tile_length f (PlainTile background foreground places) =
    1 + (colour_length f background + (colour_length f foreground + parts_length 2 places))
tile_length f (ColoredTile background subs) =
    1 + (colour_length f background + parts_length (size_of f + 2) subs)

-- ---- the tile that is sent

-- it is drawn over its background, and shorter than raw
pub record IsSentDrawn (f : PixelFormat) (width height : ℕ) (pixels : List ℕ) (held : Held)
    (tile : Tile) : Type 0 where
  pub drawn : IsDrawn width height pixels held tile
  pub shorter : tile_length f tile < 1 + raw_length f width height

-- it is raw, since drawn it would be no shorter
pub record IsSentRaw (f : PixelFormat) (width height : ℕ) (pixels : List ℕ) (held : Held)
    (tile : Tile) : Type 0 where
  pub no_shorter : (drawn : Tile) → IsDrawn width height pixels held drawn →
      1 + raw_length f width height ≤ tile_length f drawn
  pub tile_is : tile ≡ RawTile (flat_map (pixel_bytes f) pixels)

-- it is the tile of the rule
abbrev pub IsRuleTile : PixelFormat → ℕ → ℕ → List ℕ → Held → Tile → Type 0
IsRuleTile f width height pixels held tile =
    IsSentDrawn f width height pixels held tile ⊎ IsSentRaw f width height pixels held tile

-- ---- all tiles of a block

-- row by row, these are the pixels that a block has at the places of one of its tiles
abbrev pub HasPixelsOf : Grid ℕ → Rect → List ℕ → Type 0
HasPixelsOf block tile pixels = (x y : ℕ) → x < tile.w → y < tile.h →
    slice_index pixels (y * tile.w + x) ≡
    slice_index block.places ((tile.y + y) * block.width + (tile.x + x))

-- the tile of that number is the one of the rule for its pixels
pub record IsRuleTileOf (f : PixelFormat) (block : Grid ℕ) (n : ℕ) (held : Held) (tile : Tile)
    : Type 0 where
  pub pixels : List ℕ
  pub size : length pixels ≡
      (tile_part block.width block.height n).h * (tile_part block.width block.height n).w
  pub value : HasPixelsOf block (tile_part block.width block.height n) pixels
  pub tile_is : IsRuleTile f (tile_part block.width block.height n).w
      (tile_part block.width block.height n).h pixels held tile

-- so are these, from number `n` on
abbrev pub AreRuleTiles : PixelFormat → Grid ℕ → ℕ → Held → List Tile → Type 0
AreRuleTiles f block n held [] = Unit {0}
AreRuleTiles f block n held (tile ∷ tiles) =
    IsRuleTileOf f block n held tile ×
    AreRuleTiles f block (n + 1) (left_by held tile) tiles

-- how many bytes they have
abbrev pub tiles_length : PixelFormat → List Tile → ℕ
tiles_length f [] = 0
tiles_length f (tile ∷ tiles) = tile_length f tile + tiles_length f tiles

-- the bytes stand for the block, by the rule: they are those of its tiles, and no others
pub record StandsByRule (f : PixelFormat) (block : Grid ℕ) (bytes : List ℕ) : Type 0 where
  pub stands : StandsHextile f block bytes
  pub carries : CarriesColours [] stands.tiles
  pub rule : AreRuleTiles f block 0 nothing_held stands.tiles
  pub bytes_are : bytes ≡ flat_map (sent_as f) stands.tiles

-- by the rule the tiles all together would be no shorter than Raw
abbrev pub AreNoShorter : PixelFormat → Grid ℕ → Type 0
AreNoShorter f block = (tiles : List Tile) →
    length tiles ≡ tile_count block.width block.height →
    AreRuleTiles f block 0 nothing_held tiles → raw_of f block ≤ tiles_length f tiles
