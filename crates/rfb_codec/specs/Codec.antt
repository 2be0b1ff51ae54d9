-- What an encoder is given and what it promises.
use Rattle.std.specs.Prelude.{◌≡◌, ℕ, ◌+◌, ◌<◌, ◌≤◌, Bool, true, false, List, ◌++◌, length}
use Rattle.rfb_pixel.specs.declared.colour.Colour.{Colour}
use Rattle.rfb_pixel.specs.Format.{PixelFormat, pixel_of}
use Rattle.rfb_picture.specs.declared.rect.Rect.{Rect}
use Rattle.rfb_picture.specs.Grid.{Grid, IsGrid, at_or}
use Rattle.rfb_wire.specs.declared.encoding.Encoding.{Encoding}
use Rattle.rfb_wire.specs.declared.encoding.Encoding.TheVariants.{Raw, CopyRect, Rre, Hextile}
use Rattle.rfb_codec.specs.Raw.{raw_length}

-- a block has from 1 to 64 columns and rows, and one pixel for each place
pub record IsBlock (block : Grid ℕ) : Type 0 where
  pub some_columns : 1 ≤ block.width
  pub columns : block.width ≤ 64
  pub some_rows : 1 ≤ block.height
  pub rows : block.height ≤ 64
  pub whole : IsGrid block

-- each place of the block has the pixel of the colour that the picture has there in the rectangle
abbrev pub PacksRect : PixelFormat → Grid Colour → Rect → Grid ℕ → Type 0
PacksRect f picture rect block = (x y : ℕ) (d : Colour) (e : ℕ) → x < rect.w → y < rect.h →
    at_or block x y e ≡ pixel_of f (at_or picture (rect.x + x) (rect.y + y) d)

-- how many bytes the pixels of the block have by themselves
abbrev pub raw_of : PixelFormat → Grid ℕ → ℕ
raw_of f block = raw_length f block.width block.height

-- whether an encoder of it gives up what would not be shorter than Raw
abbrev pub shortens : Encoding → Bool
shortens Raw = false
shortens CopyRect = true
shortens Rre = true
shortens Hextile = true

-- bytes that stand for the block are appended, no more than its pixels have in Raw
abbrev pub Appends : (PixelFormat → Grid ℕ → List ℕ → Type 0) → PixelFormat → Grid ℕ → List ℕ →
    List ℕ → Type 0
Appends stands f block old new =
    (bytes : List ℕ) × (new ≡ old ++ bytes) × stands f block bytes × (length bytes ≤ raw_of f block)
