-- Hextile, RFC 6143 section 7.7.4: a rectangle split into tiles, each with colours of its own or
-- with those of tiles before it. How colours are carried past raw and coloured tiles is this
-- project's choice.
use Rattle.std.specs.Prelude.{◌≡◌, ℕ, ◌+◌, ◌-◌, ◌*◌, ◌/◌, ◌%◌, ◌<◌, ◌⊎◌, Bool, true, false, List, [], ◌∷◌, ◌++◌, length}
use Rattle.std.specs.Prelude.{take, slice_index_or, Option, None, min, if◌then◌else◌}
use Rattle.rfb_pixel.specs.Format.{PixelFormat}
use Rattle.rfb_picture.specs.declared.rect.Rect.{Rect}
use Rattle.rfb_picture.specs.Grid.{Grid}
use Rattle.rfb_wire.specs.stream.Prefix.{Reading, ListedAfter}
use Rattle.rfb_wire.specs.stream.Parts.{done, and_then, each}
use Rattle.rfb_codec.specs.declared.fault.PaintFault.{PaintFault}
use Rattle.rfb_codec.specs.declared.fault.PaintFault.TheVariants.{SubrectOutside}
use Rattle.rfb_codec.specs.Pixels.{Shows, drawn}
use Rattle.rfb_codec.specs.Tile.{Tile, RawTile, PlainTile, ColoredTile, background_of, foreground_of, is_missing}
use Rattle.rfb_codec.specs.Tile.{last_of, tile_pixel, FitsTile, SpellsTile, FaultsMask, LeavesTile, tile_after}

-- ---- tiles of a rectangle: 16 by 16, rows of them from the top, each from the left; those at the
-- right and at the lower edge may be smaller

-- how many lie along `places` places
abbrev pub across : ℕ → ℕ
across places = (places + 15) / 16

-- how many the rectangle has
abbrev pub tile_count : ℕ → ℕ → ℕ
tile_count width height = across height * across width

-- the size of the one with that number
abbrev pub tile_width : ℕ → ℕ → ℕ
tile_width width n = min 16 (width - n % across width * 16)

abbrev pub tile_height : ℕ → ℕ → ℕ → ℕ
tile_height width height n = min 16 (height - n / across width * 16)

-- the number of the one that holds a place
abbrev pub tile_at : ℕ → ℕ → ℕ → ℕ
tile_at width x y = y / 16 * across width + x / 16

-- the places of the tile with that number, from the rectangle's corner
abbrev pub tile_part : ℕ → ℕ → ℕ → Rect
tile_part width height n =
    record {
      x = n % across width * 16;
      y = n / across width * 16;
      w = tile_width width n;
      h = tile_height width height n;
    }

-- ---- the data

-- a tile after those before it in the rectangle
abbrev pub SpellsNextTile : PixelFormat → ℕ → ℕ → List Tile → Tile → List ℕ → Type 0
SpellsNextTile f width height before tile bytes =
    let n = length before in
    SpellsTile f (tile_width width n) (tile_height width height n) before tile bytes ×
    FitsTile (tile_width width n) (tile_height width height n) tile

-- the pixel of a place: that of its tile, which may use colours of the tiles before
abbrev pub pixel_of_tiles : PixelFormat → ℕ → List Tile → ℕ → ℕ → ℕ
pixel_of_tiles f width tiles x y =
    let n = tile_at width x y in
    tile_pixel f (tile_width width n) (take (n + 1) tiles) (slice_index_or tiles n (RawTile []))
    (x % 16) (y % 16)

-- the bytes spell a tile for each part of the rectangle, which show the block
pub record StandsHextile (f : PixelFormat) (block : Grid ℕ) (bytes : List ℕ) : Type 0 where
  pub tiles : List Tile
  pub number : length tiles ≡ tile_count block.width block.height
  pub spelled : ListedAfter (SpellsNextTile f block.width block.height) [] tiles bytes
  pub shows : Shows block (pixel_of_tiles f block.width tiles)

-- the bytes end in this fault of a tile: at its mask, or with a subrectangle that leaves it
abbrev pub FaultsTile : PixelFormat → ℕ → ℕ → List Tile → PaintFault → List ℕ → Type 0
FaultsTile f width height before fault bytes =
    FaultsMask before fault bytes ⊎
    ((fault ≡ SubrectOutside) × LeavesTile f width height before bytes)

-- the bytes end in a tile's fault, after good tiles
pub record FaultsHextile (f : PixelFormat) (width height : ℕ) (fault : PaintFault) (bytes : List ℕ)
    : Type 0 where
  pub tiles : List Tile
  pub front : List ℕ
  pub back : List ℕ
  pub whole : bytes ≡ front ++ back
  pub fewer : length tiles < tile_count width height
  pub spelled : ListedAfter (SpellsNextTile f width height) [] tiles front
  pub bad : FaultsTile f (tile_width width (length tiles))
      (tile_height width height (length tiles)) tiles fault back

-- ---- this project's rule for senders

-- the tiles after the last one that specifies a colour; all, where none does
abbrev pub after_last : (Tile → Option ℕ) → List Tile → List Tile
after_last colour [] = []
after_last colour (t ∷ tiles) =
    if is_missing (last_of colour tiles) then (if is_missing (colour t) then t ∷ tiles else
    tiles) else after_last colour tiles

abbrev pub is_raw_tile : Tile → Bool
is_raw_tile (RawTile pixels) = true
is_raw_tile (PlainTile background foreground places) = false
is_raw_tile (ColoredTile background subs) = false

abbrev pub is_raw_or_colored : Tile → Bool
is_raw_or_colored (RawTile pixels) = true
is_raw_or_colored (PlainTile background foreground places) = false
is_raw_or_colored (ColoredTile background subs) = true

-- the tile has subrectangles without a pixel of their own
abbrev pub uses_foreground : Tile → Bool
uses_foreground (RawTile pixels) = false
uses_foreground (PlainTile background foreground []) = false
uses_foreground (PlainTile background foreground (place ∷ places)) = true
uses_foreground (ColoredTile background subs) = false

-- none of the tiles is so
abbrev pub NoneIs : (Tile → Bool) → List Tile → Type 0
NoneIs test [] = Unit {0}
NoneIs test (t ∷ tiles) = (test t ≡ false) × NoneIs test tiles

-- a tile after others: where it is not raw and names no background, no raw one comes after the
-- tile that specified it; where it uses a foreground and names none, no raw or coloured one does
pub record KeepsRule (before : List Tile) (t : Tile) : Type 0 where
  pub background : is_raw_tile t ≡ false → background_of t ≡ None →
      NoneIs is_raw_tile (after_last background_of before)
  pub foreground : uses_foreground t ≡ true → foreground_of t ≡ None →
      NoneIs is_raw_or_colored (after_last foreground_of before)

-- each of the tiles keeps the rule after those before it
abbrev pub CarriesColours : List Tile → List Tile → Type 0
CarriesColours before [] = Unit {0}
CarriesColours before (t ∷ tiles) = KeepsRule before t × CarriesColours (before ++ t ∷ []) tiles

-- ---- the reading

-- the reading of Hextile data
unfoldable pub hextile : PixelFormat → ℕ → ℕ → Reading (Grid ℕ) PaintFault
hextile f width height =
    and_then (each (tile_count width height)
    (λ before. tile_after f (tile_width width (length before))
    (tile_height width height (length before)) before) [])
    (λ tiles. done (drawn width height (pixel_of_tiles f width tiles)))

-- a tile after those before it in a rectangle of that size
abbrev pub next_tile : PixelFormat → ℕ → ℕ → List Tile → Reading Tile PaintFault
next_tile f width height before =
    tile_after f (tile_width width (length before))
    (tile_height width height (length before)) before
