-- What a `World` stands for: a screen, and a link over it.
use Rattle.std.specs.Prelude.{◌≡◌, ◌≢◌, ◌≤◌, Bool, true, false, List, [], length, Option, None, Some}
use Rattle.rfb_pixel.specs.declared.colour.Colour.{Colour}
use Rattle.rfb_picture.specs.Grid.{Grid, Holds, filled, copied, with_row}
use Rattle.rfb_server.specs.declared.fault.ServerFault.{ServerFault}
use Rattle.rfb_server.specs.declared.server.Server.{Server}
use Rattle.rfb_server.specs.declared.hint.Hint.{Hint as ServerHint}
use Rattle.rfb_server.specs.Hints.{hints_in as hints_of_session, with_hint}
use Rattle.rfb_server.specs.Strokes.{Stroke, IsInside, drawn_by, hint_of, with_hint_of}
use Rattle.rfb_server.specs.Server.{first_server}
use Rattle.rfb_server.specs.Composition.{IsDue}
use Rattle.rfb_server.specs.Model.{StandsFor as ServerStandsFor, with_screen, row_from}
use Rattle.rfb_server.specs.Model.{HoldsBoth, KeepsSession}
use Rattle.rfb_viewer.specs.declared.fault.ViewerFault.{ViewerFault}
use Rattle.rfb_viewer.specs.declared.viewer.Viewer.{Viewer}
use Rattle.rfb_viewer.specs.Viewer.{first_viewer}
use Rattle.rfb_viewer.specs.Model.{StandsFor as ViewerStandsFor}
use Rattle.rfb_session.specs.declared.event.Event.{Event}
use Rattle.rfb_session.specs.declared.event.Event.TheVariants.{Fill, Put, Copy, Hint, CutText}
use Rattle.rfb_session.specs.declared.event.Event.TheVariants.{Compose}
use Rattle.rfb_session.specs.declared.told.Refused.{Refused}
use Rattle.rfb_session.specs.declared.told.Told.{Told}
use Rattle.rfb_session.specs.declared.world.World.{World}
use Rattle.rfb_session.specs.Link.{Ends, server_of, first_link}
use Rattle.rfb_session.specs.LinkModel.{LinkStandsFor, server_fault_of, viewer_fault_of}
use Rattle.rfb_session.specs.LinkModel.{shown_on, LosesOn, IsLostOn, ChangesSession}
use Rattle.rfb_session.specs.LinkBytes.{ActsOnBytes, ComposesOver}
use Rattle.rfb_session.specs.InFlight.{AreMade}
use Rattle.rfb_session.specs.Network.{Network, Steps, StepsAll, Strokes, IsReached}
use Rattle.rfb_session.specs.Told.{RefusesAs, RefusesUnless, Tells}

-- ---- what a world is

-- a world that goes on stands for a network: its screen, and its link over that
pub record StandsFor (e : Ends) (world : World) (n : Network) : Type 0 where
  pub goes_on : world.closed ≡ false
  pub screen_is : n.screen ≡ world.screen
  pub link_is : LinkStandsFor e n.screen world.link n.link

-- it is closed, after want of memory
abbrev pub is_closed : World → Bool
is_closed world = world.closed

-- the faults that its ends have failed with, if they have
abbrev pub server_fault : World → Option ServerFault
server_fault world = server_fault_of world.link

abbrev pub viewer_fault : World → Option ViewerFault
viewer_fault world = viewer_fault_of world.link

-- what its viewer shows, once there is a screen
abbrev pub shown_by : World → Option (Grid Colour)
shown_by world = shown_on world.link

-- two ends that were fed nothing; the server's screen may be drawn on
pub record AreFresh (e : Ends) (server : Server) (viewer : Viewer) (screen : Grid Colour)
    : Type 0 where
  pub width : screen.width ≡ e.serving.hello.width
  pub height : screen.height ≡ e.serving.hello.height
  pub server_is :
      ServerStandsFor e.serving server (with_screen screen (first_server e.serving)) []
  pub viewer_is : ViewerStandsFor e.viewing viewer first_viewer []

-- the network of two fresh ends
abbrev pub first_network : Ends → Grid Colour → Network
first_network e screen = record { screen = screen; link = first_link e }

-- ---- what becomes of it

-- an event is a step, whatever the world stood for, and the answer reports it
abbrev pub Does : World → Event → Told → World → Type 0
Does old event told new =
    (e : Ends) (n : Network) → AreMade e → IsReached e n → StandsFor e old n →
    (m : Network) × Steps e n event m × Tells e n event told × StandsFor e new m

-- a delivery to an end that has failed is of as many bytes as another, and has no effect; no event
-- closes the world
pub record LosesAs (old : World) (event : Event) (told : Told) (new : World) : Type 0 where
  pub link : LosesOn old.link event told new.link
  pub closed : new.closed ≡ old.closed

-- the hints that its server keeps
abbrev pub hints_in : World → List ServerHint
hints_in world = hints_of_session world.link.session

-- a hint that is not refused reaches the server as it was given, once; an update that is composed
-- spends all hints; any other event leaves them
abbrev pub HintsAs : World → Event → Told → World → Type 0
HintsAs old (Hint rect sx sy) told new =
    told.refused ≡ None → hints_in new
    ≡ with_hint (record { to = rect; sx = sx; sy = sy }) (hints_in old)
HintsAs old Compose told new =
    (told.composed ≡ true → hints_in new ≡ [])
    × (told.composed ≡ false → hints_in new ≡ hints_in old)
HintsAs old event told new = hints_in new ≡ hints_in old

-- ---- the same of its bytes, whatever its ends are

-- a drawing that is not refused gave it this screen, and changed nothing of its link but what is
-- marked there
pub record GivesScreen (screen : Grid Colour) (old new : World) : Type 0 where
  pub screen_is : new.screen ≡ screen
  pub others : ChangesSession old.link new.link
  pub session : KeepsSession old.link.session new.link.session

-- a drawing is refused where what it needs leaves the screen
abbrev pub DrawsOnBytes : Type 0 → Grid Colour → World → Told → World → Type 0
DrawsOnBytes Inside screen old told new =
    RefusesUnless Inside told.refused × (told.refused ≡ None → GivesScreen screen old new)

-- a drawing is one of each network that the world stood for; the answer says whether it is refused
pub record DrawsWorld (old : World) (s : Stroke) (told : Told) (new : World) : Type 0 where
  pub acts : DrawsOnBytes (IsInside old.screen s) (drawn_by s old.screen) old told new
  pub does : (e : Ends) (n : Network) → StandsFor e old n →
      (m : Network) × Strokes s n m × RefusesUnless (IsInside n.screen s) told.refused
      × StandsFor e new m
  pub moved : told.moved ≡ 0
  pub composed : told.composed ≡ false
  pub hints : told.refused ≡ None → hints_in new ≡ with_hint_of (hint_of s) (hints_in old)
  pub kept : told.refused ≢ None → new ≡ old
  pub closed : new.closed ≡ old.closed

abbrev pub Acts : World → Event → Told → World → Type 0
Acts old (Fill rect colour) told new =
    DrawsOnBytes (Holds old.screen rect) (filled rect colour old.screen) old told new
Acts old (Put x y row) told new =
    DrawsOnBytes (Holds old.screen (row_from x y (length row.items)))
    (with_row x y row.items old.screen) old told new
Acts old (Copy rect sx sy) told new =
    DrawsOnBytes (HoldsBoth old.screen rect sx sy) (copied rect sx sy old.screen) old told new
Acts old (Hint rect sx sy) told new =
    DrawsOnBytes (HoldsBoth old.screen rect sx sy) old.screen old told new
Acts old Compose told new =
    (new.screen ≡ old.screen) × ComposesOver old.screen old.link told new.link
Acts old event told new = (new.screen ≡ old.screen) × ActsOnBytes old.link event told new.link

-- a text has at most 1,048,576 bytes
abbrev pub HasFewBytes : Event → Type 0
HasFewBytes (CutText text) = length text.items ≤ 1048576
HasFewBytes event = Unit {0}

-- a drawing, or a hint
abbrev pub IsDrawing : Event → Type 0
IsDrawing (Fill rect colour) = Unit {0}
IsDrawing (Put x y row) = Unit {0}
IsDrawing (Copy rect sx sy) = Unit {0}
IsDrawing (Hint rect sx sy) = Unit {0}
IsDrawing event = ⊥

-- the event is refused in a network of the world, reached from a fresh one
abbrev pub IsRefused : World → Event → Type 0
IsRefused world event =
    (e : Ends) × (n : Network) × (refused : Refused)
    × IsReached e n × StandsFor e world n × RefusesAs n event (Some refused)

-- bytes on their way to an end that has failed, but for want of memory
abbrev pub IsLost : World → Event → Type 0
IsLost world event = IsLostOn world.link event

-- a composing where no update is due, in a network of the world
abbrev pub ComposesNothing : World → Event → Type 0
ComposesNothing world Compose =
    (e : Ends) × (n : Network) × StandsFor e world n
    × (IsDue (server_of n.screen n.link.session) → ⊥)
ComposesNothing world event = ⊥

-- ---- runs

-- neither end has failed
abbrev pub NeitherFailed : World → Type 0
NeitherFailed world = (server_fault world ≡ None) × (viewer_fault world ≡ None)

-- whatever network the world stood for, if it was reached from a fresh one: the steps of these events lead to one for
-- which that holds
abbrev pub Reaches : World → List Event → World → (Ends → Network → Type 0) → Type 0
Reaches old events new Holds =
    (e : Ends) (n : Network) → AreMade e → IsReached e n → StandsFor e old n →
    (m : Network) × StepsAll e n events m × StandsFor e new m × Holds e m
