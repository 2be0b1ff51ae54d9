-- What an event makes of a hub: of the screen, of its own slot, and of the others.
use Rattle.std.specs.Prelude.{◌≡◌, ◌≢◌, ◌⊎◌, ◌<◌, ◌≤◌, ℕ, Bool, false, ◌&&◌, not, nat_eq}
use Rattle.std.specs.Prelude.{List, [], ◌∷◌, length, Option, Some, None}
use Rattle.rfb_pixel.specs.declared.colour.Colour.{Colour}
use Rattle.rfb_picture.specs.Grid.{Grid, Holds, filled, copied, with_row, uniform}
use Rattle.rfb_picture.specs.Places.{has_bit}
use Rattle.rfb_hello.specs.declared.version.Version.TheVariants.{V38}
use Rattle.rfb_server.specs.Strokes.{Stroke, IsInside, drawn_by, notice_of}
use Rattle.rfb_server.specs.Strokes.{Fill as OneFill, Put as OnePut, Copy as OneCopy}
use Rattle.rfb_server.specs.Strokes.{Hint as OneHint}
use Rattle.rfb_server.specs.Server.{black}
use Rattle.rfb_server.specs.Model.{row_from, HoldsBoth, serving_with}
use Rattle.rfb_session.specs.declared.event.Event.TheVariants.{Fill as OfFill, Put as OfPut}
use Rattle.rfb_session.specs.declared.event.Event.TheVariants.{Copy as OfCopy, Hint as OfHint}
use Rattle.rfb_session.specs.declared.hub.Hub.{Hub}
use Rattle.rfb_session.specs.declared.hub.event.HubEvent.{HubEvent}
use Rattle.rfb_session.specs.declared.hub.event.HubEvent.TheVariants.{Fill, Put, Copy, Hint, Join}
use Rattle.rfb_session.specs.declared.hub.event.HubEvent.TheVariants.{Leave, Of, Foreign}
use Rattle.rfb_session.specs.declared.hub.event.HubFault.TheVariants.{Outside, SlotTaken}
use Rattle.rfb_session.specs.declared.hub.event.HubFault.TheVariants.{NoSuchSlot}
use Rattle.rfb_session.specs.declared.hub.event.HubTold.{HubTold}
use Rattle.rfb_viewer.specs.declared.setup.ViewerSetup.{ViewerSetup as Setup}
use Rattle.rfb_session.specs.declared.hub.event.SlotEvent.{SlotEvent}
use Rattle.rfb_session.specs.declared.hub.seat.HubSeat.{HubSeat}
use Rattle.rfb_session.specs.declared.told.Delivery.{Delivery}
use Rattle.rfb_session.specs.declared.told.Told.{Told}
use Rattle.rfb_session.specs.Hub.{seat_in, serving_in, IsFreshSeat, IsEmptyHub, AllHeadlines}
use Rattle.rfb_session.specs.HubSeats.{event_of, SeatDoes, SeatStandsFor, TakesForeign}
use Rattle.rfb_session.specs.HubSeats.{IsNotifiedOn}
use Rattle.rfb_session.specs.HubSlots.{SparesIn}
use Rattle.rfb_session.specs.HubAnswers.{IsMere, TellsFor}
use Rattle.rfb_session.specs.InFlight.{AreMade}
use Rattle.rfb_session.specs.Link.{Ends}
use Rattle.rfb_session.specs.Network.{Network, Steps, Strokes, IsReached}
use Rattle.rfb_session.specs.Played.{name}
use Rattle.rfb_session.specs.Slots.{is_taken, OnSlot, StaysUnless}
use Rattle.rfb_session.specs.Told.{Tells}

-- ---- the screen, and the event's own slot

-- a drawing gives the screen what it says where all that it needs lies on it, and else is refused
pub record GivesHub (Inside : Type 0) (screen : Grid Colour) (told : HubTold) (new : Hub)
    : Type 0 where
  pub case : (Inside × (told.refused ≡ None) × (new.screen ≡ screen))
      ⊎ ((Inside → ⊥) × (told.refused ≡ Some Outside))
  pub mere : IsMere told

-- a viewer takes an empty slot; that there is no such slot is judged before that it is taken
pub data JoinsAs (old : Hub) (k : ℕ) (setup : Setup) (told : HubTold) (new : Hub) : Type 0 where
  Beyond : 7 < k → told.refused ≡ Some NoSuchSlot → JoinsAs old k setup told new
  Taken : k ≤ 7 → (seat : HubSeat) → seat_in old k ≡ Some seat → told.refused ≡ Some SlotTaken →
      JoinsAs old k setup told new
  Joined : k ≤ 7 → seat_in old k ≡ None → told.refused ≡ None → (seat : HubSeat) →
      seat_in new k ≡ Some seat → IsFreshSeat old setup seat → JoinsAs old k setup told new

-- the viewer of a slot goes
pub data LeavesAs (old : Hub) (k : ℕ) (told : HubTold) (new : Hub) : Type 0 where
  NoneLeft : seat_in old k ≡ None → told.refused ≡ Some NoSuchSlot → LeavesAs old k told new
  Left : (seat : HubSeat) → seat_in old k ≡ Some seat → told.refused ≡ None →
      seat_in new k ≡ None → LeavesAs old k told new

-- bytes that no viewer sent are in flight to the session of a slot
pub data ForeignAs (old : Hub) (k : ℕ) (bytes : List ℕ) (told : HubTold) (new : Hub)
    : Type 0 where
  NoneFed : seat_in old k ≡ None → told.refused ≡ Some NoSuchSlot → ForeignAs old k bytes told new
  Fed : (a b : HubSeat) → seat_in old k ≡ Some a → told.refused ≡ None → seat_in new k ≡ Some b →
      TakesForeign bytes a b → ForeignAs old k bytes told new

-- the slots that are reported as emptied: all others that are taken, where a client asked for the
-- screen alone
abbrev pub EndsAs : Bool → ℕ → Hub → HubTold → Type 0
EndsAs sole k old told = (j : ℕ) →
    has_bit told.ended j ≡ (sole && (not (nat_eq j k) && is_taken (seat_in old j)))

-- an event of a slot happens there
pub data HappensAs (old : Hub) (k : ℕ) (event : SlotEvent) (told : HubTold) (new : Hub)
    : Type 0 where
  NoneThere : seat_in old k ≡ None → told.refused ≡ Some NoSuchSlot → IsMere told →
      HappensAs old k event told new
  Happened : (a b : HubSeat) → (d : Delivery) → seat_in old k ≡ Some a → seat_in new k ≡ Some b →
      SeatDoes old.screen a event d b → TellsFor d.told told → EndsAs d.sole k old told →
      HappensAs old k event told new

abbrev pub HubActs : Hub → HubEvent → HubTold → Hub → Type 0
HubActs old (Fill rect colour) told new =
    GivesHub (Holds old.screen rect) (filled rect colour old.screen) told new
HubActs old (Put x y row) told new =
    GivesHub (Holds old.screen (row_from x y (length row.items)))
    (with_row x y row.items old.screen) told new
HubActs old (Copy rect sx sy) told new =
    GivesHub (HoldsBoth old.screen rect sx sy) (copied rect sx sy old.screen) told new
HubActs old (Hint rect sx sy) told new =
    GivesHub (HoldsBoth old.screen rect sx sy) old.screen told new
HubActs old (Join k setup) told new =
    (new.screen ≡ old.screen) × IsMere told × JoinsAs old k setup told new
HubActs old (Leave k) told new = (new.screen ≡ old.screen) × IsMere told × LeavesAs old k told new
HubActs old (Of k event) told new = (new.screen ≡ old.screen) × HappensAs old k event told new
HubActs old (Foreign k bytes) told new =
    (new.screen ≡ old.screen) × IsMere told × ForeignAs old k bytes.items told new

-- ---- the other slots

-- a slot that the event is not of; a drawing and a hint are of none
abbrev pub IsOther : HubEvent → ℕ → Type 0
IsOther (Join j setup) k = nat_eq k j ≡ false
IsOther (Leave j) k = nat_eq k j ≡ false
IsOther (Of j event) k = nat_eq k j ≡ false
IsOther (Foreign j bytes) k = nat_eq k j ≡ false
IsOther event k = Unit {0}

-- what an event makes of a slot that it is not of: a drawing marks its session, and a hint reaches it. Any other event
-- leaves its session, its viewer, the bytes in flight and the latest composing as they were, unless the slot is
-- reported as emptied
abbrev pub StaysAs : HubEvent → HubTold → ℕ → Option HubSeat → Option HubSeat → Type 0
StaysAs (Fill rect colour) told k old new =
    told.refused ≡ None → OnSlot (λ a b. IsNotifiedOn (notice_of (OneFill rect colour)) a b) old new
StaysAs (Put x y row) told k old new =
    told.refused ≡ None → OnSlot (λ a b. IsNotifiedOn (notice_of (OnePut x y row.items)) a b) old new
StaysAs (Copy rect sx sy) told k old new =
    told.refused ≡ None → OnSlot (λ a b. IsNotifiedOn (notice_of (OneCopy rect sx sy)) a b) old new
StaysAs (Hint rect sx sy) told k old new =
    told.refused ≡ None → OnSlot (λ a b. IsNotifiedOn (notice_of (OneHint rect sx sy)) a b) old new
StaysAs event told k old new = StaysUnless (has_bit told.ended k) old new

abbrev pub OthersStay : Hub → HubEvent → HubTold → Hub → Type 0
OthersStay old event told new =
    (k : ℕ) → IsOther event k → StaysAs event told k (seat_in old k) (seat_in new k)

-- ---- the networks of slots

-- what an event is to the network of a slot: the step of a world. A drawing is one for each slot, and an event of a
-- slot for its own alone
abbrev pub SlotSteps : Ends → Network → HubEvent → ℕ → Network → Type 0
SlotSteps e old (Fill rect colour) k new = Steps e old (OfFill rect colour) new
SlotSteps e old (Put x y row) k new = Steps e old (OfPut x y row) new
SlotSteps e old (Copy rect sx sy) k new = Steps e old (OfCopy rect sx sy) new
SlotSteps e old (Hint rect sx sy) k new = Steps e old (OfHint rect sx sy) new
SlotSteps e old (Of j event) k new =
    (j ≡ k → Steps e old (event_of event) new) × (nat_eq k j ≡ false → new ≡ old)
SlotSteps e old event k new = new ≡ old

-- and the answer reports it
abbrev pub SlotTells : Ends → Network → HubEvent → ℕ → HubTold → Type 0
SlotTells e old (Of j event) k told =
    j ≡ k → (one : Told) × Tells e old (event_of event) one × TellsFor one told
SlotTells e old event k told = Unit {0}

-- a seat that was there and is, and to which no foreign bytes came
abbrev pub SlotsDo : Hub → HubEvent → HubTold → Hub → Type 0
SlotsDo old event told new =
    (k : ℕ) (a b : HubSeat) → seat_in old k ≡ Some a → seat_in new k ≡ Some b → b.foreign ≡ false →
    (e : Ends) (n : Network) → AreMade e → IsReached e n → SeatStandsFor e old.screen a n →
    (m : Network) × SlotSteps e n event k m × SlotTells e n event k told
    × SeatStandsFor e new.screen b m

-- ---- one step, and a run

pub record HubSteps (old : Hub) (event : HubEvent) (told : HubTold) (new : Hub) : Type 0 where
  pub made : serving_in new ≡ serving_in old
  pub closed : new.closed ≡ old.closed
  -- the screen, and the event's own slot
  pub acts : HubActs old event told new
  -- the others
  pub others : OthersStay old event told new
  -- the networks of its slots
  pub does : SlotsDo old event told new
  pub kept : told.refused ≢ None → new ≡ old

-- a drawing gives the screen what it says, and each session is told. It is a drawing of each slot's network, too
pub record DrawsHub (old : Hub) (s : Stroke) (told : HubTold) (new : Hub) : Type 0 where
  pub made : serving_in new ≡ serving_in old
  pub closed : new.closed ≡ old.closed
  pub acts : GivesHub (IsInside old.screen s) (drawn_by s old.screen) told new
  pub slots : told.refused ≡ None → (k : ℕ) →
      OnSlot (λ a b. IsNotifiedOn (notice_of s) a b) (seat_in old k) (seat_in new k)
  pub does : (k : ℕ) (a b : HubSeat) → seat_in old k ≡ Some a → seat_in new k ≡ Some b →
      (e : Ends) (n : Network) → SeatStandsFor e old.screen a n →
      (m : Network) × Strokes s n m × SeatStandsFor e new.screen b m
  pub kept : told.refused ≢ None → new ≡ old

-- the steps of events one after another
abbrev pub RunsHub : Hub → List HubEvent → Hub → Type 0
RunsHub old [] new = new ≡ old
RunsHub old (event ∷ events) new =
    (mid : Hub) × (told : HubTold) × HubSteps old event told mid × RunsHub mid events new

-- from a hub that was made with these, and whose slots are empty, the events led there; and all that is promised holds
-- of its slots
abbrev pub HubPlayed : ℕ → ℕ → List HubEvent → Hub → Type 0
HubPlayed width height events hub =
    (first : Hub) × IsEmptyHub first × (first.screen ≡ uniform width height black)
    × (serving_in first ≡ serving_with V38 width height name 1024)
    × RunsHub first events hub × AllHeadlines hub

-- ---- where memory is not wanting

-- a drawing, a hint, a leaving; what is refused; and what takes no memory in its slot
abbrev pub NeedsNoMemory : Hub → HubEvent → Type 0
NeedsNoMemory hub (Join k setup) = (7 < k) ⊎ ((seat : HubSeat) × (seat_in hub k ≡ Some seat))
NeedsNoMemory hub (Of k event) = SparesIn hub.screen (seat_in hub k) event
NeedsNoMemory hub (Foreign k bytes) = seat_in hub k ≡ None
NeedsNoMemory hub event = Unit {0}
