-- What the items of an update make of a picture, and what is known of the pixels that it shows.
use Rattle.std.specs.Prelude.{◌≡◌, ℕ, ◌-◌, ◌<◌, List, [], ◌∷◌, Option, Some, None, if◌then◌else◌}
use Rattle.rfb_pixel.specs.declared.colour.Colour.{Colour}
use Rattle.rfb_pixel.specs.Format.{PixelFormat, colour_of}
use Rattle.rfb_picture.specs.declared.rect.Rect.{Rect}
use Rattle.rfb_picture.specs.Rect.{contains}
use Rattle.rfb_picture.specs.Grid.{Grid, at_or, changed, copied}
use Rattle.rfb_wire.specs.stream.Prefix.{Next, More, Got, Bad}
use Rattle.rfb_codec.specs.declared.fault.PaintFault.{PaintFault}
use Rattle.rfb_codec.specs.RectData.{RectData, Pixels, Source, rect_data, painted}
use Rattle.rfb_codec.specs.UpdateStream.{UpdatePoint, UpdateItem, Message, Rectangle}

-- ---- the effect

-- what bytes that are read as data make of a picture: data and nothing after them are painted
abbrev pub painted_by : PixelFormat → Rect → Next RectData PaintFault → Grid Colour → Grid Colour
painted_by f rect More picture = picture
painted_by f rect (Got contents []) picture = painted f rect contents picture
painted_by f rect (Got contents (byte ∷ rest)) picture = picture
painted_by f rect (Bad fault) picture = picture

-- what an item makes of a picture: a message nothing, a rectangle what its data say
unfoldable pub effect : UpdatePoint → UpdateItem → Grid Colour → Grid Colour
effect p (Message message) picture = picture
effect p (Rectangle head body) picture =
    painted_by p.form head.rect
    (rect_data p.form p.width p.height head.rect head.encoding body) picture

-- what items make of it, one after another. Where in the stream they are does not matter, but for
-- the screen's size and the format, which no item changes
abbrev pub effects : UpdatePoint → List UpdateItem → Grid Colour → Grid Colour
effects p [] picture = picture
effects p (item ∷ items) picture = effects p items (effect p item picture)

-- ---- what is known of a picture: at some places the pixel that was sent for it

-- two grids have one size
pub record IsAlike {X Y : Type 0} (g : Grid X) (k : Grid Y) : Type 0 where
  pub columns : g.width ≡ k.width
  pub rows : g.height ≡ k.height

-- at each known place the picture has the colour of the pixel that is known there
abbrev pub Agrees : PixelFormat → Grid Colour → Grid (Option ℕ) → Type 0
Agrees f picture known =
    (x y pixel : ℕ) (d : Colour) → x < known.width → y < known.height →
    at_or known x y None ≡ Some pixel → at_or picture x y d ≡ colour_of f pixel

-- what is known once a block's pixels were sent for a rectangle: these there, and the old elsewhere
abbrev pub recorded : Rect → Grid ℕ → Grid (Option ℕ) → Grid (Option ℕ)
recorded rect block known =
    changed (λ x y old.
    if contains rect x y then Some (at_or block (x - rect.x) (y - rect.y) 0) else old) known

-- these and no others are known of a record `now`
abbrev pub IsRecorded : Rect → Grid ℕ → Grid (Option ℕ) → Grid (Option ℕ) → Type 0
IsRecorded rect block known now =
    (x y : ℕ) → x < now.width → y < now.height →
    at_or now x y None ≡
    (if contains rect x y then Some (at_or block (x - rect.x) (y - rect.y) 0) else
    at_or known x y None)

-- the same of data: a copy takes along what is known of its source, and what is not
abbrev pub noted : Rect → RectData → Grid (Option ℕ) → Grid (Option ℕ)
noted rect (Pixels block) known = recorded rect block known
noted rect (Source x y) known = copied rect x y known
