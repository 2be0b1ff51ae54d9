-- Deliveries to the ends of a link.
use Rattle.std.proofs.Common.{◌≡◌, ℕ, ◌+◌, ◌≤◌, min, List, [], ◌++◌, length, take, drop, take-take, take-append-drop}
use Rattle.std.proofs.Common.{length-take, Option, None, false, refl, sym, ap, ◌∙◌, subst, append-nil, arith}
use Rattle.rfb_pixel.specs.declared.colour.Colour.{Colour}
use Rattle.rfb_picture.specs.Grid.{Grid}
use Rattle.rfb_wire.specs.stream.End.{FedBy, RefusedBy}
use Rattle.rfb_hello.specs.Version.{version_text}
use Rattle.rfb_server.specs.declared.fault.ServerFault.{ServerFault}
use Rattle.rfb_server.specs.Server.{Serving, server}
use Rattle.rfb_server.specs.Model.{SessionStandsFor}
use Rattle.rfb_server.specs.Told.{ServerTold}
use Rattle.rfb_viewer.specs.declared.fault.ViewerFault.{ViewerFault}
use Rattle.rfb_viewer.specs.Viewer.{Viewing, viewer}
use Rattle.rfb_viewer.specs.Model.{StandsFor as ViewerStandsFor}
use Rattle.rfb_viewer.specs.Told.{ViewerTold}
use Rattle.rfb_session.specs.declared.event.Event.TheVariants.{ToServer, ToViewer}
use Rattle.rfb_session.specs.declared.told.Told.{Told}
use Rattle.rfb_session.specs.declared.latest.Latest.{Latest}
use Rattle.rfb_session.specs.declared.link.Link.{Link}
use Rattle.rfb_session.specs.Latest.{composing_in}
use Rattle.rfb_session.specs.Link.{Ends, LinkState, first_link}
use Rattle.rfb_session.specs.LinkSteps.{MovesToViewer, MovesToServer, flight_to_viewer, flight_to_server}
use Rattle.rfb_session.specs.InFlight.{viewer_reply, server_reply}
use Rattle.rfb_session.specs.TwoEnds.{Carries}
use Rattle.rfb_session.specs.Network.{Network, Steps, IsReached}
use Rattle.rfb_session.specs.LinkModel.{LinkStandsFor, ServesOver, AreNew, LinkDoes}
use Rattle.rfb_session.specs.ends.LinkDelivery.{DeliversToViewer, DeliversToServer}
use Rattle.rfb_session.proofs.NetworkLemmas.{reached_holds}
use Rattle.rfb_session.proofs.FlightLemmas.{first_flies}
use Rattle.rfb_session.proofs.MoveLemmas.{viewer_flight, server_flight, viewer_moves_join, server_moves_join}
use Rattle.rfb_session.proofs.CarryLemmas.{viewer_fed, server_fed, viewer_keeps, server_keeps}
use Rattle.rfb_session.proofs.WorldLemmas.{reached_step}

-- ---- the bytes in flight of a link

-- as many as its state's
pub to_viewer_length : (e : Ends) (w : Link) (n : Network) → LinkStandsFor e n.screen w n.link →
    length w.to_viewer ≡ flight_to_viewer e n.link
to_viewer_length e w n stands = viewer_flight e n.link _ stands.carries.flies

pub to_server_length : (e : Ends) (w : Link) (n : Network) → LinkStandsFor e n.screen w n.link →
    length w.to_server ≡ flight_to_server e n.link
to_server_length e w n stands = server_flight e n.link _ stands.carries.flies

-- bytes that reach an end are an event
pub viewer_steps : (e : Ends) (n : Network) (l : LinkState) (count : ℕ) →
    count ≤ flight_to_viewer e n.link → MovesToViewer e n.link count l →
    Steps e n (ToViewer count) (record n { link = l })
viewer_steps e n l count few moves =
    let all : min count (flight_to_viewer e n.link) ≡ count = omega arith in
    (refl, subst (λ (k : ℕ). MovesToViewer e n.link k l) (sym all) moves)

pub server_steps : (e : Ends) (n : Network) (l : LinkState) (count : ℕ) →
    count ≤ flight_to_server e n.link → MovesToServer e n.screen n.link count l →
    Steps e n (ToServer count) (record n { link = l })
server_steps e n l count few moves =
    let all : min count (flight_to_server e n.link) ≡ count = omega arith in
    (refl, subst (λ (k : ℕ). MovesToServer e n.screen n.link k l) (sym all) moves)

pub viewer_reached : (e : Ends) (n : Network) (l : LinkState) (count : ℕ) → IsReached e n →
    count ≤ flight_to_viewer e n.link → MovesToViewer e n.link count l →
    IsReached e (record n { link = l })
viewer_reached e n l count r few moves =
    reached_step e n (record n { link = l }) (ToViewer count) r (viewer_steps e n l count few moves)

pub server_reached : (e : Ends) (n : Network) (l : LinkState) (count : ℕ) → IsReached e n →
    count ≤ flight_to_server e n.link → MovesToServer e n.screen n.link count l →
    IsReached e (record n { link = l })
server_reached e n l count r few moves =
    reached_step e n (record n { link = l }) (ToServer count) r (server_steps e n l count few moves)

-- ---- the viewer

-- no bytes
pub viewer_none : (w : Link) → DeliversToViewer w 0 w
viewer_none w = λ e n made reached stands. (n.link, none e n stands, stands)
  where
    none : (e : Ends) (n : Network) → LinkStandsFor e n.screen w n.link → MovesToViewer e n.link 0 n.link
    none e n stands = record {
      done = [];
      left = n.link.to_viewer;
      at = n.link.at_viewer;
      queue = refl;
      count = omega arith;
      within = stands.carries.flies.viewer_within;
      result = ap (λ q. record n.link { to_server = q }) (sym (append-nil n.link.to_server));
    }

-- some, and then some more
pub viewer_more : (a b c : Link) (k j : ℕ) → k ≤ length a.to_viewer → DeliversToViewer a k b →
    DeliversToViewer b j c → DeliversToViewer a (k + j) c
viewer_more a b c k j few first second = λ e n made reached stands.
    let one = first e n made reached stands in
    let within : k ≤ flight_to_viewer e n.link =
    subst (λ (all : ℕ). k ≤ all) (to_viewer_length e a n stands) few in
    let two = second e (record n { link = one.0 }) made
    (viewer_reached e n one.0 k reached within one.1) one.2 in
    (two.0, viewer_moves_join e n.link one.0 two.0 k j one.1 two.1, two.2)

-- what it took of those that it was fed
pub fed_first : (q bytes : List ℕ) (count used : ℕ) → count ≤ length q → bytes ≡ take count q →
    used ≤ length bytes → (used ≤ count) × (take used bytes ≡ take used q)
fed_first q bytes count used few is some =
    let size : length bytes ≡ count = ap (λ (b : List ℕ). length b) is ∙ omega (arith, length-take count q) in
    let within : used ≤ count = omega arith in
    (within, ap (λ (b : List ℕ). take used b) is ∙ take-take used count q within)

-- the viewer was fed what came first, and what it answered joined the bytes to the server
pub viewer_delivers : (old new : Link) (bytes : List ℕ) (count used : ℕ)
    (event : Option ViewerTold) → count ≤ length old.to_viewer →
    bytes ≡ take count old.to_viewer → used ≤ length bytes →
    ((viewing : Viewing) → FedBy (viewer viewing) (ViewerStandsFor viewing) old.viewer
    (take used bytes) event new.viewer) →
    new.session ≡ old.session → new.to_viewer ≡ drop used old.to_viewer →
    new.to_server ≡ old.to_server ++ viewer_reply event → new.latest ≡ old.latest →
    DeliversToViewer old used new
viewer_delivers old new bytes count used event few is some fed same gets sends latest =
    λ e n made reached stands.
    let part = fed_first old.to_viewer bytes count used few is some in
    let c : Carries (ServesOver n.screen) ViewerStandsFor e n.screen old.session old.viewer old.to_server
    (take used bytes ++ drop used old.to_viewer) n.link =
    subst (λ (q : List ℕ). Carries (ServesOver n.screen) ViewerStandsFor e n.screen old.session old.viewer
    old.to_server q n.link)
    (sym (ap (λ (b : List ℕ). b ++ drop used old.to_viewer) part.1
    ∙ take-append-drop used old.to_viewer)) stands.carries in
    let one = viewer_fed (ServesOver n.screen) ViewerStandsFor e n.screen old.session old.viewer new.viewer
    old.to_server (take used bytes) (drop used old.to_viewer) event n.link made
    (reached_holds e n reached) c (fed e.viewing) in
    let many : length (take used bytes) ≡ used = omega (arith, length-take used bytes) in (
      one.0,
      subst (λ (k : ℕ). MovesToViewer e n.link k one.0) many one.1,
      record {
        carries = moved e n one.0 one.3;
        latest_is = ap (λ (l : LinkState). l.latest) one.1.result ∙ stands.latest_is
            ∙ ap (λ (l : Latest). composing_in l) (sym latest);
      },
    )
  where
    moved : (e : Ends) (n : Network) (l : LinkState) →
        Carries (ServesOver n.screen) ViewerStandsFor e n.screen old.session new.viewer
        (old.to_server ++ viewer_reply event) (drop used old.to_viewer) l →
        Carries (ServesOver n.screen) ViewerStandsFor e n.screen new.session new.viewer
        new.to_server new.to_viewer l
    moved e n l c = rw (same, gets, sends) c

-- it does not refuse them
pub viewer_never : (old new : Link) (bytes : List ℕ) (count : ℕ) (fault : ViewerFault) →
    bytes ≡ take count old.to_viewer →
    ((viewing : Viewing) → RefusedBy (viewer viewing) (ViewerStandsFor viewing) old.viewer
    bytes fault) → DeliversToViewer old count new
viewer_never old new bytes count fault is refused = λ e n made reached stands.
    let c : Carries (ServesOver n.screen) ViewerStandsFor e n.screen old.session old.viewer old.to_server
    (bytes ++ drop count old.to_viewer) n.link =
    subst (λ (q : List ℕ). Carries (ServesOver n.screen) ViewerStandsFor e n.screen old.session old.viewer
    old.to_server q n.link)
    (sym (ap (λ (b : List ℕ). b ++ drop count old.to_viewer) is
    ∙ take-append-drop count old.to_viewer)) stands.carries in
    absurd (viewer_keeps (ServesOver n.screen) ViewerStandsFor e n.screen old.session old.viewer
    old.to_server bytes (drop count old.to_viewer) fault n.link c
    (refused e.viewing))

-- the lesser of what is asked for and what is in flight, and what is answered
pub viewer_moved : (old new : Link) (count moved : ℕ) (told : Told) →
    moved ≡ min (length old.to_viewer) count → DeliversToViewer old moved new →
    told.moved ≡ moved → told.refused ≡ None → told.composed ≡ false →
    LinkDoes old (ToViewer count) told new
viewer_moved old new count moved told least delivers many taken none = λ e n made reached stands.
    let one = delivers e n made reached stands in
    let flight = to_viewer_length e old n stands in
    let all : min count (flight_to_viewer e n.link) ≡ moved = omega (arith, least, flight) in (
      record n { link = one.0 },
      (
        refl,
        subst (λ (k : ℕ). MovesToViewer e n.link k one.0)
            (sym all) one.1,
      ),
      record { moved = many ∙ sym all; refused = taken; composed = none },
      refl,
      one.2,
    )

-- ---- the server

-- no bytes
pub server_none : (w : Link) → DeliversToServer w 0 w
server_none w = λ e n made reached stands. (n.link, none e n stands, stands)
  where
    none : (e : Ends) (n : Network) → LinkStandsFor e n.screen w n.link → MovesToServer e n.screen n.link 0 n.link
    none e n stands = record {
      done = [];
      left = n.link.to_server;
      at = n.link.at_server;
      queue = refl;
      count = omega arith;
      within = stands.carries.flies.server_within;
      result = ap (λ q. record n.link { to_viewer = q }) (sym (append-nil n.link.to_viewer));
    }

-- some, and then some more
pub server_more : (a b c : Link) (k j : ℕ) → k ≤ length a.to_server → DeliversToServer a k b →
    DeliversToServer b j c → DeliversToServer a (k + j) c
server_more a b c k j few first second = λ e n made reached stands.
    let one = first e n made reached stands in
    let within : k ≤ flight_to_server e n.link =
    subst (λ (all : ℕ). k ≤ all) (to_server_length e a n stands) few in
    let two = second e (record n { link = one.0 }) made
    (server_reached e n one.0 k reached within one.1) one.2 in
    (two.0, server_moves_join e n.screen n.link one.0 two.0 k j one.1 two.1, two.2)

-- the server was fed what came first, and what it answered joined the bytes to the viewer
pub server_delivers : (old new : Link) (bytes : List ℕ) (count used : ℕ)
    (event : Option ServerTold) → count ≤ length old.to_server →
    bytes ≡ take count old.to_server → used ≤ length bytes →
    ((serving : Serving) (screen : Grid Colour) → FedBy (server serving) (SessionStandsFor serving screen)
    old.session (take used bytes) event new.session) →
    new.viewer ≡ old.viewer → new.to_server ≡ drop used old.to_server →
    new.to_viewer ≡ old.to_viewer ++ server_reply event → new.latest ≡ old.latest →
    DeliversToServer old used new
server_delivers old new bytes count used event few is some fed same gets sends latest =
    λ e n made reached stands.
    let part = fed_first old.to_server bytes count used few is some in
    let c : Carries (ServesOver n.screen) ViewerStandsFor e n.screen old.session old.viewer
    (take used bytes ++ drop used old.to_server) old.to_viewer n.link =
    subst (λ (q : List ℕ). Carries (ServesOver n.screen) ViewerStandsFor e n.screen old.session old.viewer
    q old.to_viewer n.link)
    (sym (ap (λ (b : List ℕ). b ++ drop used old.to_server) part.1
    ∙ take-append-drop used old.to_server)) stands.carries in
    let one = server_fed (ServesOver n.screen) ViewerStandsFor e n.screen old.session new.session old.viewer
    (take used bytes) (drop used old.to_server) old.to_viewer event n.link made
    (reached_holds e n reached) c (fed e.serving n.screen) in
    let many : length (take used bytes) ≡ used = omega (arith, length-take used bytes) in (
      one.0,
      subst (λ (k : ℕ). MovesToServer e n.screen n.link k one.0) many one.1,
      record {
        carries = moved e n one.0 one.3;
        latest_is = ap (λ (l : LinkState). l.latest) one.1.result ∙ stands.latest_is
            ∙ ap (λ (l : Latest). composing_in l) (sym latest);
      },
    )
  where
    moved : (e : Ends) (n : Network) (l : LinkState) →
        Carries (ServesOver n.screen) ViewerStandsFor e n.screen new.session old.viewer
        (drop used old.to_server) (old.to_viewer ++ server_reply event) l →
        Carries (ServesOver n.screen) ViewerStandsFor e n.screen new.session new.viewer
        new.to_server new.to_viewer l
    moved e n l c = rw (same, gets, sends) c

-- it does not refuse them
pub server_never : (old new : Link) (bytes : List ℕ) (count : ℕ) (fault : ServerFault) →
    bytes ≡ take count old.to_server →
    ((serving : Serving) (screen : Grid Colour) → RefusedBy (server serving) (SessionStandsFor serving screen)
    old.session bytes fault) → DeliversToServer old count new
server_never old new bytes count fault is refused = λ e n made reached stands.
    let c : Carries (ServesOver n.screen) ViewerStandsFor e n.screen old.session old.viewer
    (bytes ++ drop count old.to_server) old.to_viewer n.link =
    subst (λ (q : List ℕ). Carries (ServesOver n.screen) ViewerStandsFor e n.screen old.session old.viewer
    q old.to_viewer n.link)
    (sym (ap (λ (b : List ℕ). b ++ drop count old.to_server) is
    ∙ take-append-drop count old.to_server)) stands.carries in
    absurd (server_keeps (ServesOver n.screen) ViewerStandsFor e n.screen old.session old.viewer
    bytes (drop count old.to_server) old.to_viewer fault n.link c
    (refused e.serving n.screen))

-- the lesser of what is asked for and what is in flight, and what is answered
pub server_moved : (old new : Link) (count moved : ℕ) (told : Told) →
    moved ≡ min (length old.to_server) count → DeliversToServer old moved new →
    told.moved ≡ moved → told.refused ≡ None → told.composed ≡ false →
    LinkDoes old (ToServer count) told new
server_moved old new count moved told least delivers many taken none = λ e n made reached stands.
    let one = delivers e n made reached stands in
    let flight = to_server_length e old n stands in
    let all : min count (flight_to_server e n.link) ≡ moved = omega (arith, least, flight) in (
      record n { link = one.0 },
      (
        refl,
        subst (λ (k : ℕ). MovesToServer e n.screen n.link k one.0)
            (sym all) one.1,
      ),
      record { moved = many ∙ sym all; refused = taken; composed = none },
      refl,
      one.2,
    )

-- ---- a fresh link

pub fresh_link : (e : Ends) (screen : Grid Colour) (w : Link) →
    AreNew e w.session w.viewer screen → w.to_server ≡ [] →
    w.to_viewer ≡ version_text e.serving.hello.offer → composing_in w.latest ≡ None →
    LinkStandsFor e screen w (first_link e)
fresh_link e screen w fresh sent gets none = record {
  carries = record {
    server_has = [];
    viewer_has = [];
    server_is = fresh.session_is;
    viewer_is = fresh.viewer_is;
    flies = rw (sent, gets) (first_flies e);
  };
  latest_is = sym none;
}
