-- What a call of a share makes of the seat that it is of, where that is taken.
use Rattle.std.specs.Prelude.{◌≡◌, List, ℕ, Option, Some, None}
use Rattle.rfb_pixel.specs.declared.colour.Colour.{Colour}
use Rattle.rfb_picture.specs.Grid.{Grid}
use Rattle.rfb_server.specs.declared.late.feeding.LateFault.{LateFault}
use Rattle.rfb_server.specs.declared.late.feeding.LateFault.TheVariants.{Session as OfSession}
use Rattle.rfb_server.specs.declared.late.feeding.LateFault.TheVariants.{NoMemory as Wanting}
use Rattle.rfb_server.specs.Told.{ServerTold}
use Rattle.rfb_session.specs.declared.share.event.Composing.{Composing}
use Rattle.rfb_session.specs.declared.share.event.Composing.TheVariants.{NoSuchSeat as NoneThere}
use Rattle.rfb_session.specs.declared.share.event.ShareFault.{ShareFault}
use Rattle.rfb_session.specs.declared.share.event.ShareFault.TheVariants.{NoSuchSeat, Session, NoMemory}
use Rattle.rfb_session.specs.declared.share.seat.ShareSeat.{ShareSeat}
use Rattle.rfb_session.specs.ShareSeats.{Hears, Ends, ComposesAt, WantsRoom}

-- its session was fed bytes
abbrev pub HearsIn : List ℕ → Option ServerTold → Option ShareSeat → Option ShareSeat → Type 0
HearsIn bytes told (Some old) (Some new) = Hears bytes told old new
HearsIn bytes told old new = ⊥

-- the fault of a share that one of a session is
abbrev pub fault_of_late : LateFault → ShareFault
fault_of_late (OfSession fault) = Session fault
fault_of_late Wanting = NoMemory

-- they are not taken: its session has ended, or there is no memory for it and nothing has changed
abbrev pub EndsAtSeat : List ℕ → ShareFault → ShareSeat → ShareSeat → Type 0
EndsAtSeat bytes (Session fault) old new = Ends bytes fault old new
EndsAtSeat bytes NoMemory old new = new ≡ old
EndsAtSeat bytes NoSuchSeat old new = ⊥

-- they are not taken: its session has ended, or it is emptied for want of memory, or there is none
abbrev pub EndsIn : List ℕ → ShareFault → Option ShareSeat → Option ShareSeat → Type 0
EndsIn bytes (Session fault) (Some old) (Some new) = Ends bytes fault old new
EndsIn bytes NoMemory (Some old) None = Unit {0}
EndsIn bytes NoSuchSeat None None = Unit {0}
EndsIn bytes fault old new = ⊥

-- an update was composed for it, or not
abbrev pub ComposesIn : Grid Colour → Composing → Option ShareSeat → Option ShareSeat → Type 0
ComposesIn screen NoneThere None None = Unit {0}
ComposesIn screen told (Some old) (Some new) = ComposesAt screen told old new
ComposesIn screen told old new = ⊥

-- there was no memory for its update
abbrev pub WantsRoomIn : Grid Colour → Option ShareSeat → Option ShareSeat → Type 0
WantsRoomIn screen (Some old) (Some new) = WantsRoom screen old new
WantsRoomIn screen old new = ⊥
