-- The seats of a share that have no work: nothing is to be written there, and nothing to be composed.
use Rattle.std.specs.Prelude.{◌≡◌, ℕ, false, List, [], Option, Some, None}
use Rattle.rfb_pixel.specs.declared.colour.Colour.{Colour}
use Rattle.rfb_picture.specs.Grid.{Grid}
use Rattle.rfb_picture.specs.Places.{has_bit}
use Rattle.rfb_server.specs.UpdateCall.{NoneDue}
use Rattle.rfb_session.specs.declared.share.seat.ShareSeat.{ShareSeat}
use Rattle.rfb_session.specs.ShareSeats.{session_at, waiting_in}
use Rattle.rfb_session.specs.Slots.{seat_at}

-- nothing waits at a seat, and over the screen no update is due there
pub record Rests (screen : Grid Colour) (seat : ShareSeat) : Type 0 where
  pub written : waiting_in seat ≡ []
  pub none : NoneDue screen (session_at seat)

-- so it is where anybody sits
abbrev pub RestsIn : Grid Colour → Option ShareSeat → Type 0
RestsIn screen None = Unit {0}
RestsIn screen (Some seat) = Rests screen seat

-- so it is with each seat that is taken and not in the set
abbrev pub OthersRest : Grid Colour → List (Option ShareSeat) → ℕ → Type 0
OthersRest screen seats set = (k : ℕ) (seat : ShareSeat) → has_bit set k ≡ false →
    seat_at k seats ≡ Some seat → Rests screen seat
