-- A tile of Hextile as a decoder finds it in its bytes, and the colours that it has seen.
-- No public clause reads these words.
use Rattle.std.specs.Prelude.{◌≡◌, ℕ, zero, suc, ◌+◌, ◌*◌, ◌≤◌, ◌<◌, nat_le, Bool, true, false, if◌then◌else◌}
use Rattle.std.specs.Prelude.{slice_index, List, [], ◌∷◌, length, take, drop, map, Option, Some, None, Result, Ok, Err}
use Rattle.rfb_pixel.specs.Format.{PixelFormat, size_of}
use Rattle.rfb_picture.specs.declared.rect.Rect.{Rect}
use Rattle.rfb_wire.specs.RectHead.{IsOnScreen}
use Rattle.rfb_wire.specs.stream.Prefix.{Next, More, Got, Bad, Reading}
use Rattle.rfb_wire.specs.stream.Parts.{each}
use Rattle.rfb_codec.specs.declared.subrect.Subrect.{Subrect}
use Rattle.rfb_codec.specs.declared.fault.PaintFault.{PaintFault}
use Rattle.rfb_codec.specs.declared.fault.Flaw.{Flaw}
use Rattle.rfb_codec.specs.declared.hextile.layout.TileLayout.{TileLayout}
use Rattle.rfb_codec.specs.declared.hextile.layout.TileLayout.TheVariants.{Raw, Plain, Colored}
use Rattle.rfb_codec.specs.declared.hextile.paint.tile_read.TileRead.{TileRead}
use Rattle.rfb_codec.specs.Raw.{raw_length}
use Rattle.rfb_codec.specs.Tile.{Tile, RawTile, PlainTile, ColoredTile, background_specified, foreground_specified}
use Rattle.rfb_codec.specs.Tile.{any_subrects, subrects_colored, in_pixel, AreInside, places_of, place_of, colored_of}
use Rattle.rfb_codec.specs.Hextile.{tile_count, next_tile}

-- `n` values, one after another, of `unit` bytes each
abbrev pub values_in : {A : Type 0} → (List ℕ → A) → ℕ → ℕ → List ℕ → List A
values_in value unit zero bytes = []
values_in value unit (suc n) bytes =
    value (take unit bytes) ∷ values_in value unit n (drop unit bytes)

-- the tile that was found
abbrev pub tile_in : PixelFormat → ℕ → ℕ → TileLayout → ℕ → ℕ → List ℕ → Tile
tile_in f width height Raw list count bytes =
    RawTile (take (raw_length f width height) (drop list bytes))
tile_in f width height (Plain background foreground) list count bytes =
    PlainTile background foreground (values_in place_of 2 count (drop list bytes))
tile_in f width height (Colored background) list count bytes =
    ColoredTile background (values_in (colored_of f) (size_of f + 2) count (drop list bytes))

-- how many bytes its pixels or its subrectangles have
abbrev pub list_length : PixelFormat → ℕ → ℕ → TileLayout → ℕ → ℕ
list_length f width height Raw count = raw_length f width height
list_length f width height (Plain background foreground) count = count * 2
list_length f width height (Colored background) count = count * (size_of f + 2)

-- where it lies in the bytes
pub record LiesIn (f : PixelFormat) (width height : ℕ) (read : TileRead) (bytes : List ℕ)
    : Type 0 where
  pub end : read.used ≡ read.list + list_length f width height read.layout read.count
  pub within : read.used ≤ length bytes
  pub some : 1 ≤ read.list

-- the tile that was read, of these bytes
abbrev pub tile_of_read : PixelFormat → ℕ → ℕ → TileRead → List ℕ → Tile
tile_of_read f width height read bytes =
    tile_in f width height read.layout read.list read.count bytes

-- the result for a tile is what the reading gives
abbrev pub TellsTile : PixelFormat → ℕ → ℕ → List ℕ → Result (Option TileRead) Flaw →
    Next Tile PaintFault → Type 0
TellsTile f width height bytes (Ok None) next = next ≡ More
TellsTile f width height bytes (Ok (Some read)) next =
    (next ≡ Got (tile_of_read f width height read bytes) (drop read.used bytes)) ×
    LiesIn f width height read bytes ×
    AreInside width height (places_of (tile_of_read f width height read bytes))
TellsTile f width height bytes (Err flaw) next = next ≡ Bad flaw.fault

-- bytes that are not all of a tile are fewer than the longest has
abbrev pub IsShort : List ℕ → Result (Option TileRead) Flaw → Type 0
IsShort bytes (Ok None) = length bytes < 1536
IsShort bytes (Ok (Some read)) = Unit {0}
IsShort bytes (Err flaw) = Unit {0}

-- the colours that a layout names
abbrev pub background_named : TileLayout → Option ℕ
background_named Raw = None
background_named (Plain background foreground) = background
background_named (Colored background) = background

abbrev pub foreground_named : TileLayout → Option ℕ
foreground_named Raw = None
foreground_named (Plain background foreground) = foreground
foreground_named (Colored background) = None

-- how many bytes a subrectangle has, with a pixel of its own or without
abbrev pub sub_size : PixelFormat → Bool → ℕ
sub_size f false = 2
sub_size f true = size_of f + 2

-- the subrectangle after `n` others, where one without a pixel of its own has this foreground
abbrev pub sub_after : PixelFormat → ℕ → Bool → ℕ → List ℕ → Subrect
sub_after f foreground false n list = in_pixel foreground (place_of (take 2 (drop (n * 2) list)))
sub_after f foreground true n list =
    colored_of f (take (size_of f + 2) (drop (n * (size_of f + 2)) list))

-- the subrectangles of a tile, where those without a pixel of their own have this foreground
abbrev pub subs_in : PixelFormat → ℕ → Bool → ℕ → List ℕ → List Subrect
subs_in f foreground false count list = map (in_pixel foreground) (values_in place_of 2 count list)
subs_in f foreground true count list = values_in (colored_of f) (size_of f + 2) count list

-- `count` are there, and none of them leaves the tile
pub record AreSubsInside (f : PixelFormat) (width height foreground : ℕ) (colored : Bool)
    (count : ℕ) (list : List ℕ) : Type 0 where
  pub enough : count * sub_size f colored ≤ length list
  pub inside : (n : ℕ) → n < count →
      IsOnScreen width height (sub_after f foreground colored n list).rect

-- how many subrectangles there are, and where they begin: after the byte at that place, if there is
-- one
abbrev pub IsCount : Bool → ℕ → List ℕ → ℕ → ℕ → Type 0
IsCount false at bytes count list = (count ≡ 0) × (list ≡ at)
IsCount true at bytes count list =
    (count ≡ slice_index bytes at) × (list ≡ at + 1) × (at < length bytes)

-- `n` places, each after `skip` bytes of a pixel
abbrev pub places_from : ℕ → ℕ → List ℕ → List Rect
places_from skip zero list = []
places_from skip (suc n) list =
    place_of (take 2 (drop skip list)) ∷ places_from skip n (drop (skip + 2) list)

-- ---- all tiles

-- the tiles of a rectangle
abbrev pub all_tiles : PixelFormat → ℕ → ℕ → Reading (List Tile) PaintFault
all_tiles f width height = each (tile_count width height) (next_tile f width height) []

-- ---- how many bytes a tile has at least

-- those of a colour, if it is specified
abbrev pub colour_size : PixelFormat → Bool → ℕ
colour_size f false = 0
colour_size f true = size_of f

-- where the colours of a tile end, with coloured subrectangles or without
abbrev pub colours_end : PixelFormat → ℕ → Bool → ℕ
colours_end f mask true = 1 + colour_size f (background_specified mask)
colours_end f mask false =
    1 + colour_size f (background_specified mask) + colour_size f (foreground_specified mask)

-- those up to the count of its subrectangles, and once it is there up to the last of them
abbrev pub list_end : PixelFormat → Bool → ℕ → List ℕ → ℕ
list_end f colored end bytes =
    if nat_le (length bytes) end then end + 1 else
    end + 1 + slice_index bytes end * sub_size f colored

-- the fewest bytes that a tile has that is not raw and begins with these
abbrev pub least_size : PixelFormat → List ℕ → ℕ
least_size f bytes =
    let mask = slice_index bytes 0 in
    let end = colours_end f mask (subrects_colored mask) in
    if any_subrects mask then list_end f (subrects_colored mask) end bytes else end
