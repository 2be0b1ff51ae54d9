-- A fresh seat of a hub.
use Rattle.std.proofs.Common.{◌≡◌, ℕ, List, [], false, sym, subst}
use Rattle.rfb_pixel.specs.declared.colour.Colour.{Colour}
use Rattle.rfb_picture.specs.Grid.{Grid, IsGrid}
use Rattle.rfb_server.specs.declared.session.Session.{Session}
use Rattle.rfb_server.specs.KnownScreen.{Follows}
use Rattle.rfb_server.specs.Hints.{hints_in}
use Rattle.rfb_server.specs.Server.{first_server}
use Rattle.rfb_server.specs.Model.{SessionStandsFor, serving_with, with_screen}
use Rattle.rfb_viewer.specs.declared.viewer.Viewer.{Viewer}
use Rattle.rfb_viewer.specs.Viewer.{first_viewer}
use Rattle.rfb_viewer.specs.Model.{StandsFor as ViewerStandsFor, viewing_with}
use Rattle.rfb_session.specs.declared.hub.Hub.{Hub}
use Rattle.rfb_viewer.specs.declared.setup.ViewerSetup.{ViewerSetup as Setup}
use Rattle.rfb_session.specs.declared.hub.seat.HubSeat.{HubSeat}
use Rattle.rfb_session.specs.declared.link.Link.{Link}
use Rattle.rfb_session.specs.Hub.{serving_in, IsFreshSeat}
use Rattle.rfb_session.specs.HubSeats.{ends_of}
use Rattle.rfb_session.specs.Link.{Ends, first_link}
use Rattle.rfb_session.specs.LinkModel.{LinkStandsFor, AreNew}

pub fresh_seat : (hub : Hub) (setup : Setup) (session : Session) (viewer : Viewer) (link : Link)
    (seat : HubSeat) (w h : ℕ) (name : List ℕ) → w ≡ hub.screen.width → h ≡ hub.screen.height →
    name ≡ hub.name.items → IsGrid hub.screen →
    ((screen : Grid Colour) → SessionStandsFor (serving_with hub.offer w h name hub.text_limit)
    screen session (with_screen screen
    (first_server (serving_with hub.offer w h name hub.text_limit))) []) →
    ((screen : Grid Colour) → IsGrid screen → screen.width ≡ w → screen.height ≡ h →
    Follows screen session) →
    ViewerStandsFor (viewing_with setup.format setup.encodings.items setup.limit setup.shared
    setup.max_places setup.text_limit) viewer first_viewer [] →
    ((e : Ends) (screen : Grid Colour) → AreNew e session viewer screen →
    LinkStandsFor e screen link (first_link e)) → link.session ≡ session → hints_in session ≡ [] → seat.setup ≡ setup →
    seat.link ≡ link → seat.foreign ≡ false → IsFreshSeat hub setup seat
fresh_seat hub setup session viewer link seat w h name wide high named whole stands follows
    viewer_is links session_is unhinted setup_is link_is ours =
    let serves = subst (λ (x : ℕ). (screen : Grid Colour) →
    SessionStandsFor (serving_with hub.offer x hub.screen.height hub.name.items hub.text_limit) screen session
    (with_screen screen (first_server (serving_with hub.offer x hub.screen.height hub.name.items hub.text_limit))) [])
    wide
    (subst (λ (y : ℕ). (screen : Grid Colour) →
    SessionStandsFor (serving_with hub.offer w y hub.name.items hub.text_limit) screen session
    (with_screen screen (first_server (serving_with hub.offer w y hub.name.items hub.text_limit))) []) high
    (subst (λ (t : List ℕ). (screen : Grid Colour) →
    SessionStandsFor (serving_with hub.offer w h t hub.text_limit) screen session
    (with_screen screen (first_server (serving_with hub.offer w h t hub.text_limit))) []) named stands)) in
    record {
      setup_is = setup_is;
      ours = ours;
      follows = subst (λ (l : Link). Follows hub.screen l.session) (sym link_is)
          (subst (λ (s : Session). Follows hub.screen s) (sym session_is)
          (follows hub.screen whole (sym wide) (sym high)));
      hints = subst (λ (l : Link). hints_in l.session ≡ []) (sym link_is)
          (subst (λ (s : Session). hints_in s ≡ []) (sym session_is) unhinted);
      fresh = subst (λ (l : Link). LinkStandsFor (ends_of (serving_in hub) setup) hub.screen l
          (first_link (ends_of (serving_in hub) setup))) (sym link_is)
          (links (ends_of (serving_in hub) setup) hub.screen
          (record { session_is = serves hub.screen; viewer_is = viewer_is }));
    }
