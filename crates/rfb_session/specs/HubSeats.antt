-- A seat at a hub: what it is made with, and what becomes of it.
use Rattle.std.specs.Prelude.{◌≡◌, ◌≢◌, ◌⊎◌, ℕ, true, false, List, [], ◌++◌, None}
use Rattle.rfb_pixel.specs.declared.colour.Colour.{Colour}
use Rattle.rfb_picture.specs.Grid.{Grid}
use Rattle.rfb_server.specs.KnownScreen.{Follows, IsTold}
use Rattle.rfb_server.specs.Hints.{hints_in}
use Rattle.rfb_server.specs.Server.{Serving}
use Rattle.rfb_server.specs.declared.drawing.notice.Notice.{Notice}
use Rattle.rfb_server.specs.Strokes.{hint_told, with_hint_of}
use Rattle.rfb_server.specs.Model.{KeepsSession}
use Rattle.rfb_server.specs.UpdateCall.{OwesUpdate}
use Rattle.rfb_viewer.specs.Model.{viewing_with}
use Rattle.rfb_session.specs.declared.event.Event.{Event}
use Rattle.rfb_session.specs.declared.event.Event.TheVariants.{Request as OfRequest}
use Rattle.rfb_session.specs.declared.event.Event.TheVariants.{SetFormat as OfFormat}
use Rattle.rfb_session.specs.declared.event.Event.TheVariants.{SetEncodings as OfEncodings}
use Rattle.rfb_session.specs.declared.event.Event.TheVariants.{Key as OfKey, Pointer as OfPointer}
use Rattle.rfb_session.specs.declared.event.Event.TheVariants.{CutText as OfText}
use Rattle.rfb_session.specs.declared.event.Event.TheVariants.{Compose as OfComposing}
use Rattle.rfb_session.specs.declared.event.Event.TheVariants.{ToServer as OfServer}
use Rattle.rfb_session.specs.declared.event.Event.TheVariants.{ToViewer as OfViewer}
use Rattle.rfb_viewer.specs.declared.setup.ViewerSetup.{ViewerSetup as Setup}
use Rattle.rfb_session.specs.declared.hub.event.SlotEvent.{SlotEvent}
use Rattle.rfb_session.specs.declared.hub.event.SlotEvent.TheVariants.{Request, SetFormat}
use Rattle.rfb_session.specs.declared.hub.event.SlotEvent.TheVariants.{SetEncodings, Key, Pointer}
use Rattle.rfb_session.specs.declared.hub.event.SlotEvent.TheVariants.{CutText, Compose, ToServer}
use Rattle.rfb_session.specs.declared.hub.event.SlotEvent.TheVariants.{ToViewer}
use Rattle.rfb_session.specs.declared.hub.seat.HubSeat.{HubSeat}
use Rattle.rfb_session.specs.declared.link.Link.{Link}
use Rattle.rfb_session.specs.declared.told.Delivery.{Delivery}
use Rattle.rfb_session.specs.declared.told.Told.{Told}
use Rattle.rfb_session.specs.Link.{Ends}
use Rattle.rfb_session.specs.LinkBytes.{ActsOnBytes, ComposesOver, TellsSole}
use Rattle.rfb_session.specs.LinkBytes.{MovesNone, refusal_on}
use Rattle.rfb_session.specs.LinkModel.{LinkDoesOver, LinkStandsFor, LosesOn, ChangesSession}
use Rattle.rfb_session.specs.LinkModel.{server_fault_of}
use Rattle.rfb_session.specs.Told.{TellsAlone}
use Rattle.rfb_session.specs.LinkModel.{IsRefusedOn, IsLostOn, ComposesNothingOver}
use Rattle.rfb_session.specs.Network.{Network}
use Rattle.rfb_session.specs.World.{HasFewBytes}

-- ---- what a seat is

-- what the ends of a seat are made with
abbrev pub ends_of : Serving → Setup → Ends
ends_of serving setup = record {
  serving = serving;
  viewing = viewing_with setup.format setup.encodings.items setup.limit setup.shared
      setup.max_places setup.text_limit;
}

-- of a fresh seat, which a viewer of that setup took
pub record IsSeated (setup : Setup) (link : Link) (seat : HubSeat) : Type 0 where
  pub setup_is : seat.setup ≡ setup
  pub link_is : seat.link ≡ link
  pub ours : seat.foreign ≡ false

-- a seat that only its own viewer's bytes reached stands over a screen for a network
pub record SeatStandsFor (e : Ends) (screen : Grid Colour) (seat : HubSeat) (n : Network)
    : Type 0 where
  pub ours : seat.foreign ≡ false
  pub screen_is : n.screen ≡ screen
  pub link_is : LinkStandsFor e n.screen seat.link n.link

-- ---- drawings and hints

-- all but its session is as it was, and that has nothing new but its marks and hints
pub record KeepsSeat (old new : HubSeat) : Type 0 where
  pub setup_is : new.setup ≡ old.setup
  pub foreign_is : new.foreign ≡ old.foreign
  pub link : ChangesSession old.link new.link
  pub session : KeepsSession old.link.session new.link.session

-- its session was told of a drawing, and of its hint; nothing else that it has has changed
pub record IsNotifiedOn (notice : Notice) (old new : HubSeat) : Type 0 where
  pub keeps : KeepsSeat old new
  pub hints : hints_in new.link.session
      ≡ with_hint_of (hint_told notice) (hints_in old.link.session)
  pub follows : (before after : Grid Colour) → Follows before old.link.session →
      IsTold notice before after → Follows after new.link.session

-- bytes that no viewer sent joined those in flight to the session
pub record TakesForeign (bytes : List ℕ) (old new : HubSeat) : Type 0 where
  pub setup_is : new.setup ≡ old.setup
  pub foreign : new.foreign ≡ true
  pub to_server : new.link.to_server ≡ old.link.to_server ++ bytes
  pub to_viewer : new.link.to_viewer ≡ old.link.to_viewer
  pub session : new.link.session ≡ old.link.session
  pub viewer : new.link.viewer ≡ old.link.viewer
  pub latest : new.link.latest ≡ old.link.latest

-- ---- an event of a slot

-- it, as an event of a world
abbrev pub event_of : SlotEvent → Event
event_of (Request incremental rect) = OfRequest incremental rect
event_of (SetFormat format) = OfFormat format
event_of (SetEncodings encodings) = OfEncodings encodings
event_of (Key down key) = OfKey down key
event_of (Pointer buttons x y) = OfPointer buttons x y
event_of (CutText text) = OfText text
event_of Compose = OfComposing
event_of (ToServer count) = OfServer count
event_of (ToViewer count) = OfViewer count

-- a text has at most 1,048,576 bytes
abbrev pub HasFewSlotBytes : SlotEvent → Type 0
HasFewSlotBytes event = HasFewBytes (event_of event)

-- what it does to the bytes of a link over a screen
abbrev pub LinkActs : Grid Colour → Link → Event → Told → Link → Type 0
LinkActs screen old OfComposing told new = ComposesOver screen old told new
LinkActs screen old event told new = ActsOnBytes old event told new

-- an update that is composed spends the session's hints; else they stay
abbrev pub LinkHints : Link → Event → Told → Link → Type 0
LinkHints old OfComposing told new =
    (told.composed ≡ true → hints_in new.session ≡ [])
    × (told.composed ≡ false → hints_in new.session ≡ hints_in old.session)
LinkHints old event told new = hints_in new.session ≡ hints_in old.session

-- the client asked for the screen alone, among the bytes that reached its session
abbrev pub SoleAs : Link → Event → Delivery → Link → Type 0
SoleAs old (OfServer count) d new = TellsSole old d.told.moved d.sole new
SoleAs old event d new = d.sole ≡ false

-- all that becomes of the seat
pub record SeatDoes (screen : Grid Colour) (old : HubSeat) (event : SlotEvent) (d : Delivery)
    (new : HubSeat) : Type 0 where
  pub setup_is : new.setup ≡ old.setup
  pub foreign_is : new.foreign ≡ old.foreign
  -- what becomes of its ends and of the bytes between them, whatever they are
  pub acts : LinkActs screen old.link (event_of event) d.told new.link
  pub tells : TellsAlone (event_of event) d.told
  -- whatever network it stood for, the event is a step of it, and the answer says so
  pub does : LinkDoesOver screen old.link (event_of event) d.told new.link
  pub lost : LosesOn old.link (event_of event) d.told new.link
  pub hints : LinkHints old.link (event_of event) d.told new.link
  pub sole : SoleAs old.link (event_of event) d new.link
  pub taken : d.sole ≡ true → d.told.refused ≡ None
  pub kept : d.told.refused ≢ None → new ≡ old

-- a composing where no update is due, or where the session has failed
abbrev pub IsIdleOn : Grid Colour → Link → Event → Type 0
IsIdleOn screen link OfComposing =
    ComposesNothingOver screen link
    ⊎ ((OwesUpdate screen link.session → ⊥) ⊎ (server_fault_of link ≢ None))
IsIdleOn screen link event = ⊥

-- what takes no memory there: a call that is refused, by the link's state or by its viewer alone;
-- bytes for an end that has failed, or none; and a composing of nothing
pub record SeatSpares (screen : Grid Colour) (seat : HubSeat) (event : SlotEvent) : Type 0 where
  pub case : (IsRefusedOn seat.link (event_of event)
      ⊎ (refusal_on seat.link (event_of event) ≢ None))
      ⊎ ((IsLostOn seat.link (event_of event) ⊎ MovesNone seat.link (event_of event))
      ⊎ IsIdleOn screen seat.link (event_of event))
