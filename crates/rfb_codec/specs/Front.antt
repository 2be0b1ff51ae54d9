-- What data of a rectangle begin with, RFC 6143 section 7.7: pieces, each shown at its last byte,
-- and the bytes of the piece after them. The pieces are the source of a CopyRect, a pixel of Raw
-- or of a raw tile, RRE's number with its background, a subrectangle of RRE, and a tile that is
-- not raw.
use Rattle.std.specs.Prelude.{◌≡◌, ℕ, ◌+◌, ◌-◌, ◌*◌, ◌/◌, ◌%◌, ◌<◌, ◌≤◌, ◌&&◌, nat_lt, true, false, List, [], ◌∷◌, ◌++◌}
use Rattle.std.specs.Prelude.{length, if◌then◌else◌}
use Rattle.rfb_pixel.specs.declared.colour.Colour.{Colour}
use Rattle.rfb_pixel.specs.Format.{PixelFormat, size_of, colour_of}
use Rattle.rfb_picture.specs.declared.rect.Rect.{Rect}
use Rattle.rfb_picture.specs.Rect.{contains}
use Rattle.rfb_picture.specs.Grid.{Grid, changed, copied}
use Rattle.rfb_wire.specs.declared.encoding.Encoding.{Encoding}
use Rattle.rfb_wire.specs.declared.encoding.Encoding.TheVariants.{Raw, CopyRect, Rre, Hextile}
use Rattle.rfb_wire.specs.stream.Prefix.{More, Listed, ListedAfter}
use Rattle.rfb_wire.specs.RectHead.{IsOnScreen}
use Rattle.rfb_codec.specs.declared.subrect.Subrect.{Subrect}
use Rattle.rfb_codec.specs.Raw.{raw_pixel}
use Rattle.rfb_codec.specs.Rre.{pixel_at, SpellsRreHead, SpellsInside}
use Rattle.rfb_codec.specs.Tile.{Tile, is_raw}
use Rattle.rfb_codec.specs.Hextile.{across, tile_count, tile_width, tile_height, tile_at, SpellsNextTile}
use Rattle.rfb_codec.specs.Hextile.{pixel_of_tiles}
use Rattle.rfb_codec.specs.Hextile.{next_tile}
use Rattle.rfb_codec.specs.RectData.{SpellsSource, moved_to}
use Rattle.rfb_codec.specs.Painter.{over}

-- ---- the whole pieces, as a value

pub data Front : Type 0 where
  NoSource : Front
  TheSource : (x y : ℕ) → Front
  SomePixels : (count : ℕ) → (pixels : List ℕ) → Front
  NoHead : Front
  SomeParts : (count background : ℕ) → (subs : List Subrect) → Front
  SomeTiles : (tiles : List Tile) → Front
  -- and `count` pixels of a raw tile after the tiles
  SomeOfRaw : (tiles : List Tile) → (count : ℕ) → (pixels : List ℕ) → Front

abbrev pub encoding_of : Front → Encoding
encoding_of NoSource = CopyRect
encoding_of (TheSource x y) = CopyRect
encoding_of (SomePixels count pixels) = Raw
encoding_of NoHead = Rre
encoding_of (SomeParts count background subs) = Rre
encoding_of (SomeTiles tiles) = Hextile
encoding_of (SomeOfRaw tiles count pixels) = Hextile

-- ---- the bytes: the whole pieces, and the pending bytes after them, which are no whole piece

-- `count` pixels of all
pub record SpellsPixels (f : PixelFormat) (all count : ℕ) (pixels pending body : List ℕ) : Type 0
  where
    pub whole : body ≡ pixels ++ pending
    pub size : length pixels ≡ count * size_of f
    pub few : count ≤ all
    pub short : length pending < size_of f
    pub ended : count ≡ all → pending ≡ []

-- RRE's head, and subrectangles inside
pub record SpellsParts (f : PixelFormat) (width height count background : ℕ) (subs : List Subrect)
    (pending body : List ℕ) : Type 0 where
  pub head : List ℕ
  pub list : List ℕ
  pub whole : body ≡ head ++ (list ++ pending)
  pub head_is : SpellsRreHead f count background head
  pub listed : Listed (SpellsInside f width height) subs list
  pub few : length subs ≤ count
  pub short : length pending < size_of f + 8
  pub ended : length subs ≡ count → pending ≡ []

-- a tile that is not raw and not whole, after tiles, or no byte of one
abbrev pub BeginsTile : PixelFormat → ℕ → ℕ → List Tile → List ℕ → Type 0
BeginsTile f width height tiles [] = length tiles ≤ tile_count width height
BeginsTile f width height tiles (mask ∷ rest) =
    (length tiles < tile_count width height) × (is_raw mask ≡ false)
    × (next_tile f width height tiles (mask ∷ rest) ≡ More)

-- tiles one after another
pub record SpellsTiles (f : PixelFormat) (width height : ℕ) (tiles : List Tile)
    (pending body : List ℕ) : Type 0 where
  pub front : List ℕ
  pub whole : body ≡ front ++ pending
  pub spelled : ListedAfter (SpellsNextTile f width height) [] tiles front
  pub begins : BeginsTile f width height tiles pending

-- and `count` pixels of a raw tile, which is not whole; its mask is not among the pending bytes
pub record SpellsOfRaw (f : PixelFormat) (width height : ℕ) (tiles : List Tile) (count : ℕ)
    (pixels pending body : List ℕ) : Type 0 where
  pub front : List ℕ
  pub mask : ℕ
  pub back : List ℕ
  pub whole : body ≡ front ++ mask ∷ back
  pub spelled : ListedAfter (SpellsNextTile f width height) [] tiles front
  pub raw : is_raw mask ≡ true
  pub fewer : length tiles < tile_count width height
  pub left : count < tile_height width height (length tiles) * tile_width width (length tiles)
  pub some : SpellsPixels f (tile_height width height (length tiles) * tile_width width
      (length tiles)) count pixels pending back

-- of a rectangle on a screen of that size
abbrev pub SpellsFront : PixelFormat → ℕ → ℕ → Rect → Front → List ℕ → List ℕ → Type 0
SpellsFront f width height rect NoSource pending body = (body ≡ pending) × (length pending < 4)
SpellsFront f width height rect (TheSource x y) pending body =
    (pending ≡ []) × SpellsSource x y body × IsOnScreen width height (moved_to x y rect)
SpellsFront f width height rect (SomePixels count pixels) pending body =
    SpellsPixels f (rect.h * rect.w) count pixels pending body
SpellsFront f width height rect NoHead pending body =
    (body ≡ pending) × (length pending < 4 + size_of f)
SpellsFront f width height rect (SomeParts count background subs) pending body =
    SpellsParts f rect.w rect.h count background subs pending body
SpellsFront f width height rect (SomeTiles tiles) pending body =
    SpellsTiles f rect.w rect.h tiles pending body
SpellsFront f width height rect (SomeOfRaw tiles count pixels) pending body =
    SpellsOfRaw f rect.w rect.h tiles count pixels pending body

-- ---- what is shown

-- the picture with the first `count` pixels of the rectangle, row by row
abbrev pub pixels_over : PixelFormat → Rect → ℕ → List ℕ → Grid Colour → Grid Colour
pixels_over f rect count pixels picture =
    changed (λ x y old. if contains rect x y && nat_lt ((y - rect.y) * rect.w + (x - rect.x)) count
    then colour_of f (raw_pixel f rect.w pixels (x - rect.x) (y - rect.y)) else old) picture

-- the picture with the first n tiles of a rectangle painted
abbrev pub tiles_over : PixelFormat → Rect → ℕ → List Tile → Grid Colour → Grid Colour
tiles_over f rect n tiles picture =
    changed (λ x y old. if contains rect x y && nat_lt (tile_at rect.w (x - rect.x) (y - rect.y)) n
    then colour_of f (pixel_of_tiles f rect.w tiles (x - rect.x) (y - rect.y)) else old) picture

-- the places of the picture that the rectangle's tile with that number has
abbrev pub tile_places : Rect → ℕ → Rect
tile_places rect n = record {
  x = rect.x + n % across rect.w * 16;
  y = rect.y + n / across rect.w * 16;
  w = tile_width rect.w n;
  h = tile_height rect.w rect.h n;
}

abbrev pub shown : PixelFormat → Rect → Front → Grid Colour → Grid Colour
shown f rect NoSource picture = picture
shown f rect (TheSource x y) picture = copied rect x y picture
shown f rect (SomePixels count pixels) picture = pixels_over f rect count pixels picture
shown f rect NoHead picture = picture
shown f rect (SomeParts count background subs) picture =
    over rect (λ x y. colour_of f (pixel_at background subs x y)) picture
shown f rect (SomeTiles tiles) picture = tiles_over f rect (length tiles) tiles picture
shown f rect (SomeOfRaw tiles count pixels) picture =
    pixels_over f (tile_places rect (length tiles)) count pixels
    (tiles_over f rect (length tiles) tiles picture)

-- the picture shows these pieces of the data over the picture before the rectangle
pub record Shows (f : PixelFormat) (rect : Rect) (front : Front) (pending : List ℕ)
    (now before : Grid Colour) (body : List ℕ) : Type 0 where
  pub spelled : SpellsFront f before.width before.height rect front pending body
  pub shows : now ≡ shown f rect front before

-- it shows the whole pieces that data of this encoding begin with, and these bytes are pending
-- after them
pub record ShowsFront (f : PixelFormat) (rect : Rect) (encoding : Encoding) (before : Grid Colour)
    (body pending : List ℕ) (now : Grid Colour) : Type 0 where
  pub front : Front
  pub encoding_is : encoding_of front ≡ encoding
  pub shown_is : Shows f rect front pending now before body
