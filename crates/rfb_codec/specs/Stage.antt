-- How far a painter has come: what its stage, its pending bytes and the picture stand for.
use Rattle.std.specs.Prelude.{◌≡◌, ℕ, ◌+◌, ◌*◌, ◌<◌, ◌&&◌, ◌||◌, ◌==◌, nat_le, nat_lt, Bool, true, false, List}
use Rattle.std.specs.Prelude.{◌++◌, length, take, Option, Some, None}
use Rattle.rfb_pixel.specs.declared.colour.Colour.{Colour}
use Rattle.rfb_pixel.specs.Format.{PixelFormat, size_of}
use Rattle.rfb_picture.specs.declared.rect.Rect.{Rect}
use Rattle.rfb_picture.specs.Grid.{Grid}
use Rattle.rfb_wire.specs.declared.encoding.Encoding.{Encoding}
use Rattle.rfb_wire.specs.declared.encoding.Encoding.TheVariants.{Raw, CopyRect, Rre, Hextile}
use Rattle.rfb_wire.specs.stream.Prefix.{Bad}
use Rattle.rfb_codec.specs.declared.subrect.Subrect.{Subrect}
use Rattle.rfb_codec.specs.declared.fault.PaintFault.{PaintFault}
use Rattle.rfb_codec.specs.declared.hextile.paint.tile_read.Seen.{Seen}
use Rattle.rfb_codec.specs.declared.painter.stage.Place.{Place}
use Rattle.rfb_codec.specs.declared.painter.stage.Stage.{Stage}
use Rattle.rfb_codec.specs.declared.painter.stage.Stage.TheVariants.{BeforeSource, Copied, InPixels, BeforeHead}
use Rattle.rfb_codec.specs.declared.painter.stage.Stage.TheVariants.{InSubrects, InTiles, InRawTile}
use Rattle.rfb_codec.specs.Tile.{Tile, background_of, foreground_of, last_of}
use Rattle.rfb_codec.specs.Hextile.{tile_count, tile_width, tile_height}
use Rattle.rfb_codec.specs.RectData.{rect_data}
use Rattle.rfb_codec.specs.Front.{NoSource, TheSource, SomePixels, NoHead, SomeParts, SomeTiles, SomeOfRaw, Shows}
use Rattle.rfb_codec.specs.Front.{ShowsFront}

-- how many places come before one, row by row
abbrev pub places_before : ℕ → Place → ℕ
places_before width at = at.y * width + at.x

abbrev pub encoding_at : Stage → Encoding
encoding_at BeforeSource = CopyRect
encoding_at (Copied x y) = CopyRect
encoding_at (InPixels at) = Raw
encoding_at BeforeHead = Rre
encoding_at (InSubrects left) = Rre
encoding_at (InTiles tile seen) = Hextile
encoding_at (InRawTile tile seen at) = Hextile

-- the corner that was copied from, if one was
abbrev pub copied_from : Stage → Option (ℕ × ℕ)
copied_from BeforeSource = None
copied_from (Copied x y) = Some (x, y)
copied_from (InPixels at) = None
copied_from BeforeHead = None
copied_from (InSubrects left) = None
copied_from (InTiles tile seen) = None
copied_from (InRawTile tile seen at) = None

-- the last colours that the tiles specified
pub record Sees (before : List Tile) (seen : Seen) : Type 0 where
  pub background : seen.background ≡ last_of background_of before
  pub foreground : seen.foreground ≡ last_of foreground_of before

-- stage, pending bytes and picture stand for the picture before the rectangle and for its data so
-- far
abbrev pub StandsAt : PixelFormat → Rect → Stage → List ℕ → Grid Colour → Grid Colour → List ℕ →
    Type 0
StandsAt f rect BeforeSource pending now before body = Shows f rect NoSource pending now before body
StandsAt f rect (Copied x y) pending now before body =
    Shows f rect (TheSource x y) pending now before body
StandsAt f rect (InPixels at) pending now before body =
    (pixels : List ℕ)
    × Shows f rect (SomePixels (places_before rect.w at) pixels) pending now before body
StandsAt f rect BeforeHead pending now before body = Shows f rect NoHead pending now before body
StandsAt f rect (InSubrects left) pending now before body =
    (background : ℕ) × (subs : List Subrect)
    × Shows f rect (SomeParts (length subs + left) background subs) pending now before body
StandsAt f rect (InTiles tile seen) pending now before body =
    (tiles : List Tile) × (length tiles ≡ tile) × Sees tiles seen
    × Shows f rect (SomeTiles tiles) pending now before body
StandsAt f rect (InRawTile tile seen at) pending now before body =
    (tiles : List Tile) × (pixels : List ℕ) × (length tiles ≡ tile) × Sees tiles seen
    × Shows f rect (SomeOfRaw tiles (places_before (tile_width rect.w tile) at) pixels)
    pending now before body

-- the data have ended
abbrev pub is_ended : Rect → Stage → Bool
is_ended rect BeforeSource = false
is_ended rect (Copied x y) = true
is_ended rect (InPixels at) = rect.w == 0 || nat_le rect.h at.y
is_ended rect BeforeHead = false
is_ended rect (InSubrects left) = left == 0
is_ended rect (InTiles tile seen) = nat_le (tile_count rect.w rect.h) tile
is_ended rect (InRawTile tile seen at) = false

-- a place lies in a rectangle of that size
abbrev pub is_inside : ℕ → ℕ → Place → Bool
is_inside width height at = nat_lt at.x width && nat_lt at.y height

-- fewer bytes are pending than the piece under way has, and a place under way is one
abbrev pub is_sound : PixelFormat → Rect → Stage → ℕ → Bool
is_sound f rect BeforeSource pending = nat_lt pending 4
is_sound f rect (Copied x y) pending = pending == 0
is_sound f rect (InPixels at) pending =
    nat_lt pending (size_of f) && (rect.w == 0 || nat_lt at.x rect.w)
is_sound f rect BeforeHead pending = nat_lt pending (4 + size_of f)
is_sound f rect (InSubrects left) pending = nat_lt pending (size_of f + 8)
is_sound f rect (InTiles tile seen) pending = nat_lt pending 1536
is_sound f rect (InRawTile tile seen at) pending =
    nat_lt pending (size_of f) && nat_lt tile (tile_count rect.w rect.h)
    && is_inside (tile_width rect.w tile) (tile_height rect.w rect.h tile) at

-- ---- a fault

-- the data show this fault with byte n of these, and the picture shows the pieces before it
pub record IsRefused (f : PixelFormat) (rect : Rect) (encoding : Encoding) (before : Grid Colour)
    (body bytes : List ℕ) (fault : PaintFault) (now : Grid Colour) : Type 0 where
  pub n : ℕ
  pub pending : List ℕ
  pub within : n < length bytes
  pub bad : rect_data f before.width before.height rect encoding (body ++ take (n + 1) bytes)
      ≡ Bad fault
  pub shows : ShowsFront f rect encoding before (body ++ take n bytes) pending now
