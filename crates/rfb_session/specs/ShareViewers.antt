-- A seat of a share whose viewer is this project's: both ends, and the bytes between them, are a
-- link over the share's screen.
use Rattle.std.specs.Prelude.{◌≡◌, ℕ, List, ◌++◌, map, Option, Some, None}
use Rattle.rfb_picture.specs.declared.rect.Rect.{Rect}
use Rattle.rfb_pixel.specs.declared.colour.Colour.{Colour}
use Rattle.rfb_pixel.specs.Format.{PixelFormat}
use Rattle.rfb_picture.specs.Grid.{Grid}
use Rattle.rfb_wire.specs.Encoding.{number_of}
use Rattle.rfb_wire.specs.ClientMessage.{ClientMessage, SetEncodings as EncodingsMessage}
use Rattle.rfb_wire.specs.ClientMessage.{KeyEvent, PointerEvent, ClientCutText}
use Rattle.rfb_viewer.specs.declared.viewer.Viewer.{Viewer}
use Rattle.rfb_viewer.specs.Viewer.{ViewerState}
use Rattle.rfb_viewer.specs.Calls.{call_refusal, request_refusal, format_refusal}
use Rattle.rfb_viewer.specs.Calls.{requested, formatted}
use Rattle.rfb_viewer.specs.Model.{StandsFor as ViewerStandsFor}
use Rattle.rfb_session.specs.declared.event.Event.{Event}
use Rattle.rfb_session.specs.declared.event.Event.TheVariants.{SetEncodings, Key, Pointer, CutText}
use Rattle.rfb_session.specs.declared.share.Share.{Share}
use Rattle.rfb_session.specs.declared.share.seat.ShareSeat.{ShareSeat}
use Rattle.rfb_session.specs.TwoEnds.{Carries}
use Rattle.rfb_session.specs.Link.{Ends, first_link}
use Rattle.rfb_session.specs.LinkModel.{ServesOver}
use Rattle.rfb_session.specs.Network.{Network, Goes, IsReached}
use Rattle.rfb_session.specs.Share.{seat_in, screen_of}
use Rattle.rfb_session.specs.ShareSeats.{session_at, waiting_in}

-- of the bytes that the viewer sent, those have not been received at the seat; and of the bytes
-- that were written for it, those have not reached it. After these come the ones that wait. So both
-- stand for a network over the share's screen, which events of a world led to
pub record IsWatchedBy (e : Ends) (share : Share) (k : ℕ) (viewer : Viewer)
    (to_server on_way : List ℕ) (n : Network) : Type 0 where
  pub seat : ShareSeat
  pub there : seat_in share k ≡ Some seat
  pub screen_is : n.screen ≡ screen_of share
  pub reached : IsReached e n
  pub carries : Carries (ServesOver n.screen) ViewerStandsFor e n.screen (session_at seat) viewer
      to_server (on_way ++ waiting_in seat) n.link

-- a fresh link over a screen
abbrev pub fresh_over : Ends → Grid Colour → Network
fresh_over e screen = record { screen = screen; link = first_link e }

-- the network has become such a one, by at most one event or drawing
abbrev pub GoesOn : Ends → Network → Share → ℕ → Viewer → List ℕ → List ℕ → Type 0
GoesOn e old share k viewer to_server on_way =
    (new : Network) × Goes e old new × IsWatchedBy e share k viewer to_server on_way new

-- whoever is the viewer of the seat, and whatever is between the two: their network after a call is
-- the one before it
abbrev pub StaysWatched : Share → ℕ → Share → Type 0
StaysWatched old k new =
    (e : Ends) (viewer : Viewer) (to_server on_way : List ℕ) (n : Network) →
    IsWatchedBy e old k viewer to_server on_way n → IsWatchedBy e new k viewer to_server on_way n

-- ---- calls of the viewer that are not refused

-- a request
pub record Requests (e : Ends) (rect : Rect) (old new : Viewer) : Type 0 where
  pub taken : (s : ViewerState) (prefix : List ℕ) → ViewerStandsFor e.viewing old s prefix →
      None ≡ request_refusal s rect
  pub stands : (s : ViewerState) (prefix : List ℕ) → ViewerStandsFor e.viewing old s prefix →
      ViewerStandsFor e.viewing new (requested s) prefix

-- a format
pub record AsksFormat (e : Ends) (form : PixelFormat) (old new : Viewer) : Type 0 where
  pub taken : (s : ViewerState) (prefix : List ℕ) → ViewerStandsFor e.viewing old s prefix →
      None ≡ format_refusal s prefix
  pub stands : (s : ViewerState) (prefix : List ℕ) → ViewerStandsFor e.viewing old s prefix →
      ViewerStandsFor e.viewing new (formatted form s) prefix

-- a call that changes nothing of it
abbrev pub MaySend : Ends → Viewer → Type 0
MaySend e viewer = (s : ViewerState) (prefix : List ℕ) →
    ViewerStandsFor e.viewing viewer s prefix → None ≡ call_refusal s

-- the message of an event that changes nothing of the viewer
abbrev pub plain_message : Event → Option ClientMessage
plain_message (SetEncodings encodings) =
    Some (EncodingsMessage (map (λ encoding. number_of encoding) encodings.items))
plain_message (Key down key) = Some (KeyEvent down key)
plain_message (Pointer buttons x y) = Some (PointerEvent buttons x y)
plain_message (CutText text) = Some (ClientCutText text.items)
plain_message event = None
