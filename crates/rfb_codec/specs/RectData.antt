-- The data of a rectangle of an update, RFC 6143 section 7.7, and what they do to a picture.
use Rattle.std.specs.Prelude.{◌≡◌, ℕ, ◌-◌, List, length, Option, Some, None, if◌then◌else◌}
use Rattle.rfb_pixel.specs.declared.colour.Colour.{Colour}
use Rattle.rfb_pixel.specs.Format.{PixelFormat, colour_of}
use Rattle.rfb_picture.specs.declared.rect.Rect.{Rect}
use Rattle.rfb_picture.specs.Rect.{contains}
use Rattle.rfb_picture.specs.Grid.{Grid, at_or, changed, copied}
use Rattle.rfb_wire.specs.declared.encoding.Encoding.{Encoding}
use Rattle.rfb_wire.specs.declared.encoding.Encoding.TheVariants.{Raw, CopyRect, Rre, Hextile}
use Rattle.rfb_wire.specs.Fields.{u16_at}
use Rattle.rfb_wire.specs.stream.Prefix.{Reading, Says}
use Rattle.rfb_wire.specs.stream.Parts.{checked, renamed}
use Rattle.rfb_wire.specs.RectHead.{IsOnScreen}
use Rattle.rfb_wire.specs.RectStream.{is_on_screen}
use Rattle.rfb_codec.specs.declared.fault.PaintFault.{PaintFault}
use Rattle.rfb_codec.specs.declared.fault.PaintFault.TheVariants.{SubrectOutside, SourceOutside}
use Rattle.rfb_codec.specs.Pixels.{IsSized}
use Rattle.rfb_codec.specs.Raw.{StandsRaw, raw}
use Rattle.rfb_codec.specs.Rre.{StandsRre, LeavesAtEnd, rre}
use Rattle.rfb_codec.specs.Hextile.{StandsHextile, FaultsHextile, hextile}

-- what data say: the pixels of a block, or where on the screen to copy from
pub data RectData : Type 0 where
  Pixels : (block : Grid ℕ) → RectData
  Source : (x y : ℕ) → RectData

-- ---- the data of each encoding

-- CopyRect, section 7.7.2: U16 src-x-position and U16 src-y-position
pub record SpellsSource (x y : ℕ) (bytes : List ℕ) : Type 0 where
  pub size : length bytes ≡ 4
  pub x_is : u16_at 0 bytes ≡ x
  pub y_is : u16_at 2 bytes ≡ y

-- the corner that the data of this encoding name to copy from, if they do
abbrev pub source_in : Encoding → List ℕ → Option (ℕ × ℕ)
source_in Raw bytes = None
source_in CopyRect bytes = Some (u16_at 0 bytes, u16_at 2 bytes)
source_in Rre bytes = None
source_in Hextile bytes = None

-- a rectangle of the same size with another corner
abbrev pub moved_to : ℕ → ℕ → Rect → Rect
moved_to x y rect = record rect { x = x; y = y }

-- the bytes are the data of a rectangle of this encoding, on a screen of that size
abbrev pub SpellsData : PixelFormat → ℕ → ℕ → Rect → Encoding → RectData → List ℕ → Type 0
SpellsData f width height rect Raw (Pixels block) bytes =
    IsSized rect.w rect.h block × StandsRaw f block bytes
SpellsData f width height rect Raw (Source x y) bytes = ⊥
SpellsData f width height rect CopyRect (Pixels block) bytes = ⊥
SpellsData f width height rect CopyRect (Source x y) bytes =
    SpellsSource x y bytes × IsOnScreen width height (moved_to x y rect)
SpellsData f width height rect Rre (Pixels block) bytes =
    IsSized rect.w rect.h block × StandsRre f block bytes
SpellsData f width height rect Rre (Source x y) bytes = ⊥
SpellsData f width height rect Hextile (Pixels block) bytes =
    IsSized rect.w rect.h block × StandsHextile f block bytes
SpellsData f width height rect Hextile (Source x y) bytes = ⊥

-- the bytes are a source that leaves the screen
pub record IsSourceOutside (width height : ℕ) (rect : Rect) (bytes : List ℕ) : Type 0 where
  pub x : ℕ
  pub y : ℕ
  pub spelled : SpellsSource x y bytes
  pub outside : IsOnScreen width height (moved_to x y rect) → ⊥

-- the bytes end in this fault, of an element of the data that is whole
abbrev pub FaultsData : PixelFormat → ℕ → ℕ → Rect → Encoding → PaintFault → List ℕ → Type 0
FaultsData f width height rect Raw fault bytes = ⊥
FaultsData f width height rect CopyRect fault bytes =
    (fault ≡ SourceOutside) × IsSourceOutside width height rect bytes
FaultsData f width height rect Rre fault bytes =
    (fault ≡ SubrectOutside) × LeavesAtEnd f rect.w rect.h bytes
FaultsData f width height rect Hextile fault bytes = FaultsHextile f rect.w rect.h fault bytes

-- what the bytes after a head say
abbrev pub data_says : PixelFormat → ℕ → ℕ → Rect → Encoding → Says RectData PaintFault
data_says f width height rect encoding =
    record {
      item = SpellsData f width height rect encoding;
      fault = FaultsData f width height rect encoding;
    }

-- ---- the reading

-- the fault of a source, if it has one
abbrev pub source_fault : ℕ → ℕ → Rect → Option PaintFault
source_fault width height source =
    if is_on_screen width height source then None else Some SourceOutside

-- the rectangle of that size at the source that bytes begin with
abbrev pub source_rect : Rect → List ℕ → Rect
source_rect rect bytes = moved_to (u16_at 0 bytes) (u16_at 2 bytes) rect

-- a source, judged at its last byte
abbrev pub source : ℕ → ℕ → Rect → Reading RectData PaintFault
source width height rect =
    checked 4 (λ bytes. source_fault width height (source_rect rect bytes))
    (λ bytes. Source (u16_at 0 bytes) (u16_at 2 bytes))

-- the data of a rectangle
unfoldable pub rect_data : PixelFormat → ℕ → ℕ → Rect → Encoding → Reading RectData PaintFault
rect_data f width height rect Raw =
    renamed (λ block. Pixels block) (λ fault. fault) (raw f rect.w rect.h)
rect_data f width height rect CopyRect = source width height rect
rect_data f width height rect Rre =
    renamed (λ block. Pixels block) (λ fault. fault) (rre f rect.w rect.h)
rect_data f width height rect Hextile =
    renamed (λ block. Pixels block) (λ fault. fault) (hextile f rect.w rect.h)

-- ---- the effect

-- the picture with, at each place of the rectangle, the colour of the block's pixel there
abbrev pub replaced : PixelFormat → Rect → Grid ℕ → Grid Colour → Grid Colour
replaced f rect block picture =
    changed (λ x y old.
    if contains rect x y then colour_of f (at_or block (x - rect.x) (y - rect.y) 0) else
    old) picture

-- what the data make of a picture: pixels replace the rectangle's, and a source is copied as it
-- was
abbrev pub painted : PixelFormat → Rect → RectData → Grid Colour → Grid Colour
painted f rect (Pixels block) picture = replaced f rect block picture
painted f rect (Source x y) picture = copied rect x y picture
