-- A rectangle of an update that brings pixels, as it is appended.
use Rattle.std.specs.Prelude.{◌≡◌, ℕ, ◌+◌, ◌≤◌, List, ◌++◌, length, ◌⊎◌}
use Rattle.rfb_pixel.specs.declared.colour.Colour.{Colour}
use Rattle.rfb_pixel.specs.Format.{PixelFormat}
use Rattle.rfb_picture.specs.declared.rect.Rect.{Rect}
use Rattle.rfb_picture.specs.Grid.{Grid}
use Rattle.rfb_wire.specs.declared.encoding.Encoding.{Encoding}
use Rattle.rfb_wire.specs.declared.encoding.Encoding.TheVariants.{Raw}
use Rattle.rfb_wire.specs.RectHead.{SpellsRectHead}
use Rattle.rfb_codec.specs.RectData.{Pixels, SpellsData}
use Rattle.rfb_codec.specs.Codec.{raw_of, PacksRect, Appends}
use Rattle.rfb_codec.specs.Pixels.{IsSized}
use Rattle.rfb_codec.specs.Raw.{StandsRaw}
use Rattle.rfb_codec.specs.ByRule.{StandsIn, GivesUp}

-- the bytes are a rectangle in that encoding, whose data are the block's pixels, on a screen of any
-- size
pub record IsCoded (f : PixelFormat) (rect : Rect) (encoding : Encoding)
    (block : Grid ℕ) (bytes : List ℕ) : Type 0 where
  pub head : List ℕ
  pub body : List ℕ
  pub whole : bytes ≡ head ++ body
  pub head_is : SpellsRectHead (record { rect = rect; encoding = encoding }) head
  pub body_is : (width height : ℕ) → SpellsData f width height rect encoding (Pixels block) body
  pub by_rule : StandsIn encoding f block body
  pub short : length bytes ≤ 12 + raw_of f block

-- such bytes were appended, in this encoding
pub record AppendsIn (f : PixelFormat) (rect : Rect) (encoding : Encoding)
    (block : Grid ℕ) (old new : List ℕ) : Type 0 where
  pub bytes : List ℕ
  pub appended : new ≡ old ++ bytes
  pub coded : IsCoded f rect encoding block bytes

-- they were appended in that encoding where its rule does not give the block up, and in Raw where
-- it does
abbrev pub SendsRect : PixelFormat → Rect → Encoding → Grid ℕ → List ℕ → List ℕ → Type 0
SendsRect f rect encoding block old new =
    ((GivesUp encoding f block → ⊥) × AppendsIn f rect encoding block old new) ⊎
    (GivesUp encoding f block × AppendsIn f rect Raw block old new)

-- the block has the pixels of the rectangle of the screen, and their bytes in Raw were appended
pub record AppendsRaw (f : PixelFormat) (screen : Grid Colour) (rect : Rect) (block : Grid ℕ)
    (old new : List ℕ) : Type 0 where
  pub sized : IsSized rect.w rect.h block
  pub packed : PacksRect f screen rect block
  pub appended : Appends StandsRaw f block old new
