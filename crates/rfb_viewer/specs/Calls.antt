-- Calls on a viewer: which are refused, and what the others change of its state.
use Rattle.std.specs.Prelude.{ℕ, zero, suc, ◌==◌, ◌&&◌, ◌||◌, nat_lt, not, Bool, true, false, List, [], ◌∷◌, Option}
use Rattle.std.specs.Prelude.{Some, None, Result, Ok, Err}
use Rattle.rfb_pixel.specs.Format.{PixelFormat}
use Rattle.rfb_picture.specs.declared.rect.Rect.{Rect}
use Rattle.rfb_wire.specs.RectStream.{is_on_screen}
use Rattle.rfb_wire.specs.stream.Sequel.{First, Second}
use Rattle.rfb_codec.specs.UpdateStream.{UpdatePoint}
use Rattle.rfb_viewer.specs.declared.fault.CallFault.{CallFault}
use Rattle.rfb_viewer.specs.declared.fault.CallFault.TheVariants.{NotReady, Busy, AreaOutside}
use Rattle.rfb_viewer.specs.declared.fault.TextFault.{TextFault}
use Rattle.rfb_viewer.specs.declared.fault.TextFault.TheVariants.{NotReady as TextNotReady, NoMemory}
use Rattle.rfb_viewer.specs.ServerBytes.{ServerAt}
use Rattle.rfb_viewer.specs.Viewer.{ViewerState}

-- ---- refusals

-- a refusal where its test holds, else what the next tests say
abbrev pub refusal_if : Bool → CallFault → Option CallFault → Option CallFault
refusal_if true fault more = Some fault
refusal_if false fault more = more

-- the area has a place, and lies on the screen
abbrev pub is_requestable : UpdatePoint → Rect → Bool
is_requestable p rect = nat_lt 0 rect.w && nat_lt 0 rect.h && is_on_screen p.width p.height rect

-- whether the stream is inside an update, from its type byte on: by how many rectangles are
-- left, and which bytes of the next item came
abbrev pub is_inside : ℕ → List ℕ → Bool
is_inside zero [] = false
is_inside zero (first ∷ rest) = first == 0
is_inside (suc left) prefix = true

-- a call waits for the end of the handshake
abbrev pub call_refused : ServerAt → Option CallFault
call_refused (First point) = Some NotReady
call_refused (Second p) = None

-- a request waits for the one before it too, and its area is judged last
abbrev pub request_refused : ServerAt → Bool → Rect → Option CallFault
request_refused (First point) outstanding rect = Some NotReady
request_refused (Second p) outstanding rect =
    refusal_if outstanding Busy (refusal_if (not (is_requestable p rect)) AreaOutside None)

-- a format waits for a request too, and for the end of an update
abbrev pub format_refused : ServerAt → Bool → List ℕ → Option CallFault
format_refused (First point) outstanding prefix = Some NotReady
format_refused (Second p) outstanding prefix =
    refusal_if (outstanding || is_inside p.left prefix) Busy None

abbrev pub call_refusal : ViewerState → Option CallFault
call_refusal s = call_refused s.point

abbrev pub request_refusal : ViewerState → Rect → Option CallFault
request_refusal s rect = request_refused s.point s.outstanding rect

abbrev pub format_refusal : ViewerState → List ℕ → Option CallFault
format_refusal s prefix = format_refused s.point s.outstanding prefix

-- ---- refusals as they are answered

-- what a call was refused with, if it was
abbrev pub refusal_of : {A : Type 0} → Result A CallFault → Option CallFault
refusal_of (Ok sent) = None
refusal_of (Err fault) = Some fault

-- the same of a text: want of memory is no refusal
abbrev pub text_refusal_of : {A : Type 0} → Result A TextFault → Option CallFault
text_refusal_of (Ok sent) = None
text_refusal_of (Err TextNotReady) = Some NotReady
text_refusal_of (Err NoMemory) = None

-- ---- what a call that is not refused makes of the state

-- a request is outstanding
abbrev pub requested : ViewerState → ViewerState
requested s = record s { outstanding = true }

-- the format is in force from the next update on
abbrev pub with_format : PixelFormat → ServerAt → ServerAt
with_format form (First point) = First point
with_format form (Second p) = Second (record p { form = form })

abbrev pub formatted : PixelFormat → ViewerState → ViewerState
formatted form s = record s { point = with_format form s.point }
