-- What a share is.
use Rattle.std.specs.Prelude.{◌≡◌, ℕ, ◌<◌, Bool, true, false, List, [], Option, Some, None}
use Rattle.rfb_pixel.specs.declared.colour.Colour.{Colour}
use Rattle.rfb_picture.specs.Grid.{Grid}
use Rattle.rfb_hello.specs.Version.{version_text}
use Rattle.rfb_server.specs.declared.fault.ServerFault.{ServerFault}
use Rattle.rfb_server.specs.KnownScreen.{Follows}
use Rattle.rfb_server.specs.Hints.{hints_in}
use Rattle.rfb_server.specs.Server.{Serving, first_server}
use Rattle.rfb_server.specs.Model.{SessionStandsFor, serving_with, session_fault, with_screen}
use Rattle.rfb_viewer.specs.declared.viewer.Viewer.{Viewer}
use Rattle.rfb_session.specs.declared.share.Share.{Share}
use Rattle.rfb_session.specs.declared.share.seat.ShareSeat.{ShareSeat}
use Rattle.rfb_session.specs.ShareScreen.{shown_on, canvas_on, viewer_on}
use Rattle.rfb_session.specs.ShareSeats.{session_at, waiting_in, is_update, memory_at}
use Rattle.rfb_session.specs.Slots.{seat_at, is_taken}

-- the seat of number k, where it is taken
abbrev pub seat_in : Share → ℕ → Option ShareSeat
seat_in share k = seat_at k share.seats

-- its screen
abbrev pub screen_of : Share → Grid Colour
screen_of share = shown_on share.screen

-- what its owner draws on, if its owner draws it
abbrev pub canvas_of : Share → Option (Grid Colour)
canvas_of share = canvas_on share.screen

-- the viewer whose picture it is, if it is one's
abbrev pub viewer_of : Share → Option Viewer
viewer_of share = viewer_on share.screen

-- what its sessions are made with
abbrev pub serving_in : Share → Serving
serving_in share =
    serving_with share.offer (screen_of share).width (screen_of share).height share.name.items
    share.text_limit

-- no seat is taken
abbrev pub IsEmptyShare : Share → Type 0
IsEmptyShare share = (k : ℕ) → seat_in share k ≡ None

-- all eight are
abbrev pub AllTaken : Share → Type 0
AllTaken share = (k : ℕ) → k < 8 → is_taken (seat_in share k) ≡ true

-- the bytes that wait to be written to the viewer of a seat, where there is one
abbrev pub waiting_for : Option ShareSeat → List ℕ
waiting_for None = []
waiting_for (Some seat) = waiting_in seat

abbrev pub waits_at : Share → ℕ → List ℕ
waits_at share k = waiting_for (seat_in share k)

-- they are an update's
abbrev pub update_for : Option ShareSeat → Bool
update_for None = false
update_for (Some seat) = is_update seat

abbrev pub is_update_at : Share → ℕ → Bool
is_update_at share k = update_for (seat_in share k)

-- the fault that the session of a seat has failed with
abbrev pub fault_for : Option ShareSeat → Option ServerFault
fault_for None = None
fault_for (Some seat) = session_fault (session_at seat)

abbrev pub fault_in : Share → ℕ → Option ServerFault
fault_in share k = fault_for (seat_in share k)

-- a seat that has just been taken: a session over the screen that was fed nothing and follows it,
-- and its greeting, RFC 6143 section 7.1.1, for which no memory is taken
pub record IsFreshIn (share : Share) (seat : ShareSeat) : Type 0 where
  pub fresh : SessionStandsFor (serving_in share) (screen_of share) (session_at seat)
      (with_screen (screen_of share) (first_server (serving_in share))) []
  pub greets : waiting_in seat ≡ version_text share.offer
  pub memory : memory_at seat ≡ 0
  pub follows : Follows (screen_of share) (session_at seat)
  pub hints : hints_in (session_at seat) ≡ []
