-- A rectangle under way in a `Painter`: what it and the picture stand for.
use Rattle.std.specs.Prelude.{◌≡◌, ℕ, ◌-◌, ◌<◌, List, if◌then◌else◌}
use Rattle.rfb_pixel.specs.declared.colour.Colour.{Colour}
use Rattle.rfb_pixel.specs.Format.{PixelFormat}
use Rattle.rfb_picture.specs.declared.rect.Rect.{Rect}
use Rattle.rfb_picture.specs.Rect.{contains}
use Rattle.rfb_picture.specs.Grid.{Grid, changed}
use Rattle.rfb_wire.specs.declared.encoding.Encoding.{Encoding}
use Rattle.rfb_wire.specs.stream.Prefix.{Reading}
use Rattle.rfb_wire.specs.declared.rect_head.RectHead.{RectHead}
use Rattle.rfb_wire.specs.RectHead.{SpellsRectHead, IsOnScreen}
use Rattle.rfb_codec.specs.declared.fault.PaintFault.{PaintFault}
use Rattle.rfb_codec.specs.RectData.{RectData, rect_data}
use Rattle.rfb_codec.specs.UpdateStream.{UpdatePoint}

-- what a `Painter` paints
pub record Painting : Type 0 where
  pub rect : Rect
  pub encoding : Encoding
  pub form : PixelFormat

-- what data begin with, on a screen of the picture's size
abbrev pub data_of : Painting → Grid Colour → Reading RectData PaintFault
data_of p picture = rect_data p.form picture.width picture.height p.rect p.encoding

-- ---- a painter at its place in an update

-- the painting that a head asks for at a point of the stream
abbrev pub painting_of : UpdatePoint → RectHead → Painting
painting_of p head = record { rect = head.rect; encoding = head.encoding; form = p.form }

-- at that point of the stream these bytes are a rectangle's head, and the screen has the picture's
-- size
pub record AwaitsData (p : UpdatePoint) (head : RectHead) (front : List ℕ) (picture : Grid Colour)
    : Type 0 where
  pub some_left : 0 < p.left
  pub head_is : SpellsRectHead head front
  pub on_screen : IsOnScreen p.width p.height head.rect
  pub columns : picture.width ≡ p.width
  pub rows : picture.height ≡ p.height

-- ---- places of a picture

-- the picture with colour c x y at place (x, y) of the rectangle, counted from its corner
abbrev pub over : Rect → (ℕ → ℕ → Colour) → Grid Colour → Grid Colour
over rect c picture =
    changed (λ x y old. if contains rect x y then c (x - rect.x) (y - rect.y) else old) picture
