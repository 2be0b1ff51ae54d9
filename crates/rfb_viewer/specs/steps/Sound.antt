-- What holds of each viewer, whatever it stands for.
use Rattle.std.specs.Prelude.{◌==◌, ◌&&◌, not, Bool, true, false, length, Option, Some, None}
use Rattle.rfb_pixel.specs.declared.colour.Colour.{Colour}
use Rattle.rfb_picture.specs.Grid.{Grid}
use Rattle.rfb_wire.specs.RectStream.{is_on_screen}
use Rattle.rfb_codec.specs.Stage.{is_ended}
use Rattle.rfb_codec.specs.UnderWay.{UnderWay}
use Rattle.rfb_hello.specs.declared.viewer_hello.ViewerHello.{ViewerHello}
use Rattle.rfb_hello.specs.ViewerModel.{is_open}
use Rattle.rfb_viewer.specs.declared.viewer.progress.Progress.{Progress}
use Rattle.rfb_viewer.specs.declared.viewer.progress.Progress.TheVariants.{Handshake, Head}
use Rattle.rfb_viewer.specs.declared.viewer.progress.Progress.TheVariants.{Data, Failed}

-- there is a screen
abbrev pub has_screen : Option (Grid Colour) → Bool
has_screen None = false
has_screen (Some picture) = true

-- the rectangle that is painted lies on the screen, and its data have not ended
abbrev pub holds_data : UnderWay → Option (Grid Colour) → Bool
holds_data painter None = false
holds_data painter (Some picture) =
    is_on_screen picture.width picture.height painter.rect
    && not (is_ended painter.rect painter.stage)

-- the handshake goes on in its end, and after it there is a screen
abbrev pub is_sound : ViewerHello → Progress → Option (Grid Colour) → Bool
is_sound hello Handshake picture = is_open hello
is_sound hello (Data more painter) picture = holds_data painter picture
is_sound hello (Failed fault) picture = true
is_sound hello progress picture = has_screen picture

-- ---- what is reported of it

-- the bytes end between two messages
abbrev pub is_idle : Progress → Bool
is_idle (Head bytes) = length bytes.items == 0
is_idle progress = false

-- ---- what is taken next

-- no rectangle's data are under way
abbrev pub IsElsewhere : Progress → Type 0
IsElsewhere (Data more painter) = ⊥
IsElsewhere progress = Unit {0}
