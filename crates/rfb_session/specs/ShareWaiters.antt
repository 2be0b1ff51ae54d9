-- Whether anybody at a share waits for an update.
use Rattle.std.specs.Prelude.{ℕ, Option, Some, None}
use Rattle.rfb_server.specs.UpdateCall.{HasAsked}
use Rattle.rfb_session.specs.declared.share.Share.{Share}
use Rattle.rfb_session.specs.declared.share.seat.ShareSeat.{ShareSeat}
use Rattle.rfb_session.specs.Share.{seat_in}
use Rattle.rfb_session.specs.ShareSeats.{session_at}

-- who sits there does
abbrev pub HasAskedIn : Option ShareSeat → Type 0
HasAskedIn None = ⊥
HasAskedIn (Some seat) = HasAsked (session_at seat)

-- at some seat
abbrev pub SomeAsked : Share → Type 0
SomeAsked share = (k : ℕ) × HasAskedIn (seat_in share k)
