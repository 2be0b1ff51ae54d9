-- Which calls a viewer refuses, whatever it stands for, and whether it has failed or not.
use Rattle.std.specs.Prelude.{nat_lt, ◌&&◌, ◌||◌, not, Bool, true, false, Option, Some, None}
use Rattle.rfb_pixel.specs.declared.colour.Colour.{Colour}
use Rattle.rfb_picture.specs.declared.rect.Rect.{Rect}
use Rattle.rfb_picture.specs.Grid.{Grid}
use Rattle.rfb_wire.specs.RectStream.{is_on_screen}
use Rattle.rfb_viewer.specs.declared.fault.CallFault.{CallFault}
use Rattle.rfb_viewer.specs.declared.fault.CallFault.TheVariants.{NotReady, Busy, AreaOutside}
use Rattle.rfb_viewer.specs.declared.viewer.Viewer.{Viewer}
use Rattle.rfb_viewer.specs.declared.viewer.progress.Progress.{Progress}
use Rattle.rfb_viewer.specs.declared.viewer.progress.Progress.TheVariants.{Handshake, Head}
use Rattle.rfb_viewer.specs.declared.viewer.progress.Progress.TheVariants.{RectHead as RectHeadPart}
use Rattle.rfb_viewer.specs.declared.viewer.progress.Progress.TheVariants.{Data}
use Rattle.rfb_viewer.specs.declared.viewer.progress.Progress.TheVariants.{Failed}
use Rattle.rfb_viewer.specs.Calls.{is_inside, refusal_if}
use Rattle.rfb_viewer.specs.Model.{is_outstanding}

-- ---- what calls look at

-- the handshake is done, and it has not failed
abbrev pub is_ready : Progress → Bool
is_ready Handshake = false
is_ready (Failed fault) = false
is_ready progress = true

-- the bytes are inside an update, from its type byte on
abbrev pub is_updating : Progress → Bool
is_updating (Head bytes) = is_inside 0 bytes.items
is_updating (RectHeadPart more head) = true
is_updating (Data more painter) = true
is_updating progress = false

-- the area has a place, and lies on the screen
abbrev pub is_shown : Option (Grid Colour) → Rect → Bool
is_shown None rect = false
is_shown (Some picture) rect =
    nat_lt 0 rect.w && nat_lt 0 rect.h && is_on_screen picture.width picture.height rect

-- ---- refusals

-- a call waits for the end of the handshake, and none is taken after a fault
abbrev pub call_refused_by : Viewer → Option CallFault
call_refused_by viewer = refusal_if (not (is_ready viewer.progress)) NotReady None

-- a request waits for the one before it too, and its area is judged last
abbrev pub request_refused_by : Viewer → Rect → Option CallFault
request_refused_by viewer rect =
    refusal_if (not (is_ready viewer.progress)) NotReady
    (refusal_if (is_outstanding viewer.request) Busy
    (refusal_if (not (is_shown viewer.picture rect)) AreaOutside None))

-- a format waits for a request too, and for the end of an update
abbrev pub format_refused_by : Viewer → Option CallFault
format_refused_by viewer =
    refusal_if (not (is_ready viewer.progress)) NotReady
    (refusal_if (is_outstanding viewer.request || is_updating viewer.progress) Busy None)
