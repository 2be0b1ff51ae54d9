-- What a `Link` stands for over the screen that its session borrows: a state of the link.
use Rattle.std.specs.Prelude.{◌≡◌, ◌≢◌, ℕ, min, List, [], length, drop, Option, Some, None}
use Rattle.rfb_pixel.specs.declared.colour.Colour.{Colour}
use Rattle.rfb_picture.specs.Grid.{Grid}
use Rattle.rfb_server.specs.declared.fault.ServerFault.{ServerFault}
use Rattle.rfb_server.specs.declared.fault.ServerFault.TheVariants.{NoMemory as ServerWants}
use Rattle.rfb_server.specs.declared.session.Session.{Session}
use Rattle.rfb_server.specs.Fault.{fault_number}
use Rattle.rfb_server.specs.Server.{Serving, ServerState, first_server}
use Rattle.rfb_server.specs.Composition.{IsDue}
use Rattle.rfb_server.specs.Model.{SessionStandsFor, with_screen, session_fault}
use Rattle.rfb_server.specs.KnownScreen.{Follows}
use Rattle.rfb_viewer.specs.declared.fault.ViewerFault.{ViewerFault}
use Rattle.rfb_viewer.specs.declared.fault.ViewerFault.TheVariants.{NoMemory as ViewerWants}
use Rattle.rfb_viewer.specs.declared.viewer.Viewer.{Viewer}
use Rattle.rfb_viewer.specs.Viewer.{first_viewer}
use Rattle.rfb_viewer.specs.Model.{StandsFor as ViewerStandsFor, picture_of, fault_of}
use Rattle.rfb_session.specs.declared.event.Event.{Event}
use Rattle.rfb_session.specs.declared.event.Event.TheVariants.{ToServer, ToViewer}
use Rattle.rfb_session.specs.declared.link.Link.{Link}
use Rattle.rfb_session.specs.declared.told.Refused.{Refused}
use Rattle.rfb_session.specs.declared.told.Told.{Told}
use Rattle.rfb_session.specs.Latest.{composing_in}
use Rattle.rfb_session.specs.Link.{Ends, LinkState, server_of}
use Rattle.rfb_session.specs.InFlight.{AreMade}
use Rattle.rfb_session.specs.TwoEnds.{Carries}
use Rattle.rfb_session.specs.Network.{Network, Steps, IsReached}
use Rattle.rfb_session.specs.LinkBytes.{ActsOnBytes}
use Rattle.rfb_session.specs.Told.{RefusesAs, Tells, TellsAlone}

-- ---- what a link is

-- what a session stands for over that screen
abbrev pub ServesOver : Grid Colour → Serving → Session → ServerState → List ℕ → Type 0
ServesOver screen serving session s prefix = SessionStandsFor serving screen session s prefix

-- over a screen a link stands for a state: its ends and the bytes in flight between them for those
-- of the state; and what it notes is the state's latest composing
pub record LinkStandsFor (e : Ends) (screen : Grid Colour) (link : Link) (l : LinkState)
    : Type 0 where
  pub carries : Carries (ServesOver screen) ViewerStandsFor e screen link.session link.viewer
      link.to_server link.to_viewer l
  pub latest_is : l.latest ≡ composing_in link.latest

-- its session
abbrev pub session_of_link : Link → Session
session_of_link link = link.session

-- the bytes in flight to its ends
abbrev pub to_server_on : Link → List ℕ
to_server_on link = link.to_server

abbrev pub to_viewer_on : Link → List ℕ
to_viewer_on link = link.to_viewer

-- the faults that its ends have failed with, if they have
abbrev pub server_fault_of : Link → Option ServerFault
server_fault_of link = session_fault link.session

abbrev pub viewer_fault_of : Link → Option ViewerFault
viewer_fault_of link = fault_of link.viewer

-- the number of a fault, where there is one
abbrev pub number_of : Option ServerFault → Option ℕ
number_of None = None
number_of (Some fault) = Some (fault_number fault)

-- what its viewer shows, once there is a screen
abbrev pub shown_on : Link → Option (Grid Colour)
shown_on link = picture_of link.viewer

-- two ends that were fed nothing, over a screen of the session's size, whatever it shows
pub record AreNew (e : Ends) (session : Session) (viewer : Viewer) (screen : Grid Colour)
    : Type 0 where
  pub session_is :
      SessionStandsFor e.serving screen session (with_screen screen (first_server e.serving)) []
  pub viewer_is : ViewerStandsFor e.viewing viewer first_viewer []

-- ---- what becomes of it

-- an event is a step, whatever the link stood for over whatever screen, and the answer reports it
abbrev pub LinkDoes : Link → Event → Told → Link → Type 0
LinkDoes old event told new =
    (e : Ends) (n : Network) → AreMade e → IsReached e n → LinkStandsFor e n.screen old n.link →
    (m : Network) × Steps e n event m × Tells e n event told × (m.screen ≡ n.screen)
    × LinkStandsFor e n.screen new m.link

-- the same over one screen
abbrev pub LinkDoesOver : Grid Colour → Link → Event → Told → Link → Type 0
LinkDoesOver screen old event told new =
    (e : Ends) (n : Network) → AreMade e → IsReached e n → n.screen ≡ screen →
    LinkStandsFor e n.screen old n.link →
    (m : Network) × Steps e n event m × Tells e n event told × (m.screen ≡ n.screen)
    × LinkStandsFor e n.screen new m.link

-- all but the session is as it was
pub record ChangesSession (old new : Link) : Type 0 where
  pub viewer : new.viewer ≡ old.viewer
  pub to_server : new.to_server ≡ old.to_server
  pub to_viewer : new.to_viewer ≡ old.to_viewer
  pub latest : new.latest ≡ old.latest

-- whatever screen the session followed, it still does
abbrev pub FollowsStill : Link → Link → Type 0
FollowsStill old new = (screen : Grid Colour) →
    Follows screen old.session → Follows screen new.session

-- all but the bytes in flight to the session is as it was
pub record IsBesideToServer (old new : Link) : Type 0 where
  pub session : new.session ≡ old.session
  pub viewer : new.viewer ≡ old.viewer
  pub to_viewer : new.to_viewer ≡ old.to_viewer
  pub latest : new.latest ≡ old.latest

-- `count` bytes leave the channel to an end that has failed, and nothing else changes
pub record LosesToServer (old : Link) (count : ℕ) (new : Link) : Type 0 where
  pub to_server : new.to_server ≡ drop count old.to_server
  pub beside : IsBesideToServer old new

pub record LosesToViewer (old : Link) (count : ℕ) (new : Link) : Type 0 where
  pub to_viewer : new.to_viewer ≡ drop count old.to_viewer
  pub to_server : new.to_server ≡ old.to_server
  pub viewer : new.viewer ≡ old.viewer
  pub session : new.session ≡ old.session
  pub latest : new.latest ≡ old.latest

-- a delivery to an end that has failed is of as many bytes as another, and has no effect
abbrev pub LosesOn : Link → Event → Told → Link → Type 0
LosesOn old (ToServer count) told new =
    (fault : ServerFault) → server_fault_of old ≡ Some fault →
    (told.moved ≡ min (length old.to_server) count) × LosesToServer old told.moved new
LosesOn old (ToViewer count) told new =
    (fault : ViewerFault) → viewer_fault_of old ≡ Some fault →
    (told.moved ≡ min (length old.to_viewer) count) × LosesToViewer old told.moved new
LosesOn old event told new = Unit {0}

-- bytes that arrive, by all that is said of them: none is refused
pub record Arrives (old : Link) (event : Event) (told : Told) (new : Link) : Type 0 where
  pub bytes : ActsOnBytes old event told new
  pub does : LinkDoes old event told new
  pub lost : LosesOn old event told new
  pub taken : told.refused ≡ None
  pub tells : TellsAlone event told

-- ---- where memory is not wanting

-- the event is refused in a state of the link over a screen, reached from a fresh one
abbrev pub IsRefusedOn : Link → Event → Type 0
IsRefusedOn link event =
    (e : Ends) × (n : Network) × (refused : Refused)
    × IsReached e n × LinkStandsFor e n.screen link n.link × RefusesAs n event (Some refused)

-- bytes on their way to an end that has failed, but for want of memory
abbrev pub IsLostOn : Link → Event → Type 0
IsLostOn link (ToServer count) =
    (fault : ServerFault) × (server_fault_of link ≡ Some fault) × (fault ≢ ServerWants)
IsLostOn link (ToViewer count) =
    (fault : ViewerFault) × (viewer_fault_of link ≡ Some fault) × (fault ≢ ViewerWants)
IsLostOn link event = ⊥

-- no update is due in a state of the link over that screen
abbrev pub ComposesNothingOver : Grid Colour → Link → Type 0
ComposesNothingOver screen link =
    (e : Ends) × (l : LinkState) × LinkStandsFor e screen link l
    × (IsDue (server_of screen l.session) → ⊥)
