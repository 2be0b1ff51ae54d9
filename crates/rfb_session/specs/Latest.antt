-- What a `Latest` notes: a composing, or that there was none yet.
use Rattle.std.specs.Prelude.{Option, Some, None}
use Rattle.rfb_pixel.specs.declared.colour.Colour.{Colour}
use Rattle.rfb_pixel.specs.Format.{PixelFormat}
use Rattle.rfb_picture.specs.Grid.{Grid}
use Rattle.rfb_picture.specs.Area.{Places}
use Rattle.rfb_session.specs.declared.latest.Latest.{Latest}
use Rattle.rfb_session.specs.Link.{Composing}

abbrev pub noted : Grid Colour → Places → Option PixelFormat → Option Composing
noted screen area None = None
noted screen area (Some form) = Some (record { screen = screen; area = area; form = form })

-- the composing that is noted, if there was one
abbrev pub composing_in : Latest → Option Composing
composing_in latest = noted latest.screen latest.area latest.format
