-- What a hub is, and the networks of its slots.
use Rattle.std.specs.Prelude.{◌≡◌, ℕ, ◌≤◌, Bool, false, [], length, Option, Some, None}
use Rattle.rfb_pixel.specs.declared.colour.Colour.{Colour}
use Rattle.rfb_picture.specs.Grid.{Grid}
use Rattle.rfb_server.specs.KnownScreen.{Follows}
use Rattle.rfb_server.specs.Hints.{hints_in}
use Rattle.rfb_server.specs.Server.{Serving}
use Rattle.rfb_server.specs.Model.{serving_with}
use Rattle.rfb_session.specs.declared.hub.Hub.{Hub}
use Rattle.rfb_session.specs.declared.hub.event.HubEvent.{HubEvent}
use Rattle.rfb_session.specs.declared.hub.event.HubEvent.TheVariants.{Of, Foreign}
use Rattle.rfb_viewer.specs.declared.setup.ViewerSetup.{ViewerSetup as Setup}
use Rattle.rfb_session.specs.declared.hub.seat.HubSeat.{HubSeat}
use Rattle.rfb_session.specs.Link.{Ends, first_link}
use Rattle.rfb_session.specs.LinkModel.{LinkStandsFor, server_fault_of, viewer_fault_of}
use Rattle.rfb_session.specs.LinkModel.{number_of}
use Rattle.rfb_session.specs.LinkModel.{shown_on}
use Rattle.rfb_session.specs.Headline.{IsHeadline, ShowsKnown, ShowsLatest, due_picture}
use Rattle.rfb_session.specs.HubSeats.{ends_of, SeatStandsFor, HasFewSlotBytes}
use Rattle.rfb_session.specs.InFlight.{AreMade}
use Rattle.rfb_session.specs.Network.{Network, IsReached}
use Rattle.rfb_session.specs.Slots.{seat_at}

-- ---- what a hub is

-- the seat of slot k, where it is taken
abbrev pub seat_in : Hub → ℕ → Option HubSeat
seat_in hub k = seat_at k hub.slots

-- what its sessions are made with
abbrev pub serving_in : Hub → Serving
serving_in hub =
    serving_with hub.offer hub.screen.width hub.screen.height hub.name.items hub.text_limit

-- it is closed, after want of memory
abbrev pub is_shut : Hub → Bool
is_shut hub = hub.closed

-- no slot is taken
abbrev pub IsEmptyHub : Hub → Type 0
IsEmptyHub hub = (k : ℕ) → seat_in hub k ≡ None

-- a text, and foreign bytes, are at most 1,048,576 bytes
abbrev pub HasFewHubBytes : HubEvent → Type 0
HasFewHubBytes (Of k event) = HasFewSlotBytes event
HasFewHubBytes (Foreign k bytes) = length bytes.items ≤ 1048576
HasFewHubBytes event = Unit {0}

-- what the viewer of a seat shows, where there is one with a screen
abbrev pub shown_by_seat : Option HubSeat → Option (Grid Colour)
shown_by_seat None = None
shown_by_seat (Some seat) = shown_on seat.link

abbrev pub shown_in : Hub → ℕ → Option (Grid Colour)
shown_in hub k = shown_by_seat (seat_in hub k)

-- the number of the fault that the session of a seat has failed with
abbrev pub number_in_seat : Option HubSeat → Option ℕ
number_in_seat None = None
number_in_seat (Some seat) = number_of (server_fault_of seat.link)

abbrev pub fault_number_in : Hub → ℕ → Option ℕ
fault_number_in hub k = number_in_seat (seat_in hub k)

-- a seat that a viewer of that setup has just taken: two fresh ends over the screen, and no hint
pub record IsFreshSeat (hub : Hub) (setup : Setup) (seat : HubSeat) : Type 0 where
  pub setup_is : seat.setup ≡ setup
  pub ours : seat.foreign ≡ false
  pub follows : Follows hub.screen seat.link.session
  pub hints : hints_in seat.link.session ≡ []
  pub fresh : LinkStandsFor (ends_of (serving_in hub) setup) hub.screen seat.link
      (first_link (ends_of (serving_in hub) setup))

-- ---- the networks of its slots

-- each seat that got no foreign bytes, and whose viewer admits the screen, stands over the screen
-- for a network. That was reached from a fresh one, and `Holds` is so for it
abbrev pub Each : Hub → (Ends → HubSeat → Network → Type 0) → Type 0
Each hub Holds =
    (k : ℕ) (seat : HubSeat) → seat_in hub k ≡ Some seat → seat.foreign ≡ false →
    AreMade (ends_of (serving_in hub) seat.setup) →
    (n : Network) × IsReached (ends_of (serving_in hub) seat.setup) n
    × SeatStandsFor (ends_of (serving_in hub) seat.setup) hub.screen seat n
    × Holds (ends_of (serving_in hub) seat.setup) seat n

abbrev pub HubStands : Hub → Type 0
HubStands hub = Each hub (λ e seat n. Unit {0})

-- neither end of such a seat has failed
abbrev pub NoneFailed : Hub → Type 0
NoneFailed hub = Each hub (λ e seat n.
    (server_fault_of seat.link ≡ None) × (viewer_fault_of seat.link ≡ None))

-- wherever it is known what its viewer has, it shows that once all in flight has arrived
abbrev pub AllShowKnown : Hub → Type 0
AllShowKnown hub = Each hub (λ e seat n.
    ShowsKnown n.link.session.form n.link.session.known (due_picture e n.link))

-- over the area of its latest update it then shows the screen as it was composed of
abbrev pub AllShowLatest : Hub → Type 0
AllShowLatest hub = Each hub (λ e seat n. ShowsLatest n.link.latest (due_picture e n.link))

-- all of these
abbrev pub AllHeadlines : Hub → Type 0
AllHeadlines hub = Each hub (λ e seat n.
    (server_fault_of seat.link ≡ None) × (viewer_fault_of seat.link ≡ None) × IsHeadline e n.link)
