-- What a share shows: a screen that its owner draws, or the picture that a viewer of a server has.
use Rattle.std.specs.Prelude.{Option, Some, None}
use Rattle.rfb_pixel.specs.declared.colour.Colour.{Colour}
use Rattle.rfb_picture.specs.Grid.{Grid}
use Rattle.rfb_server.specs.Strokes.{Stroke, IsInside}
use Rattle.rfb_viewer.specs.declared.viewer.Viewer.{Viewer}
use Rattle.rfb_session.specs.declared.share.screen.Screen.{Screen}
use Rattle.rfb_session.specs.declared.share.screen.Screen.TheVariants.{Drawn, Seen}
use Rattle.rfb_session.specs.Mirrors.{seen_by}

abbrev pub shown_on : Screen → Grid Colour
shown_on (Drawn picture) = picture
shown_on (Seen mirror) = seen_by mirror.viewer

-- what its owner draws on
abbrev pub canvas_on : Screen → Option (Grid Colour)
canvas_on (Drawn picture) = Some picture
canvas_on (Seen mirror) = None

-- the viewer whose picture it is
abbrev pub viewer_on : Screen → Option Viewer
viewer_on (Drawn picture) = None
viewer_on (Seen mirror) = Some mirror.viewer

-- there is a canvas, and a drawing is inside of it
abbrev pub IsOnCanvas : Option (Grid Colour) → Stroke → Type 0
IsOnCanvas None stroke = ⊥
IsOnCanvas (Some canvas) stroke = IsInside canvas stroke
