-- What happens in one slot of a hub.
use Rattle.std.specs.Prelude.{ℕ, Bool, true, false, List, Option, Some, None}
use Rattle.rfb_pixel.specs.declared.colour.Colour.{Colour}
use Rattle.rfb_picture.specs.Grid.{Grid}
use Rattle.rfb_session.specs.declared.hub.event.SlotEvent.{SlotEvent}
use Rattle.rfb_session.specs.declared.hub.seat.HubSeat.{HubSeat}
use Rattle.rfb_session.specs.declared.told.Delivery.{Delivery}
use Rattle.rfb_session.specs.HubSeats.{SeatDoes, SeatSpares, TakesForeign}

-- an event of a slot happens where there is a seat
abbrev pub DoesIn : Grid Colour → Option HubSeat → SlotEvent → Option Delivery → Option HubSeat → Type 0
DoesIn screen None event None None = Unit {0}
DoesIn screen (Some old) event (Some d) (Some new) = SeatDoes screen old event d new
DoesIn screen old event d new = ⊥

-- it takes no memory there
abbrev pub SparesIn : Grid Colour → Option HubSeat → SlotEvent → Type 0
SparesIn screen None event = Unit {0}
SparesIn screen (Some seat) event = SeatSpares screen seat event

-- foreign bytes are in flight to the session of a slot, if there is one; and whether there is
abbrev pub TakesOrNot : Bool → List ℕ → Option HubSeat → Option HubSeat → Type 0
TakesOrNot false bytes None None = Unit {0}
TakesOrNot true bytes (Some old) (Some new) = TakesForeign bytes old new
TakesOrNot taken bytes old new = ⊥
