-- A share's seat and a viewer of this project's go on as a link does: as bytes
-- pass, and drawings.
use Rattle.std.proofs.Common.{◌≡◌, ◌≢◌, ℕ, List, [], ◌++◌, length, length-append}
use Rattle.std.proofs.Common.{take, drop, take-append-drop, append_assoc, Option, Some}
use Rattle.std.proofs.Common.{None, inl, inr, refl, sym, ap, ◌∙◌, subst, arith}
use Rattle.rfb_pixel.specs.declared.colour.Colour.{Colour}
use Rattle.rfb_picture.specs.Grid.{Grid}
use Rattle.rfb_wire.specs.stream.End.{FedBy, RefusedBy, acts}
use Rattle.rfb_hello.specs.Version.{version_text}
use Rattle.rfb_server.specs.declared.fault.ServerFault.{ServerFault}
use Rattle.rfb_server.specs.declared.fault.ServerFault.TheVariants.{NoMemory}
use Rattle.rfb_server.specs.declared.session.Session.{Session}
use Rattle.rfb_server.specs.Failed.{EndsAs}
use Rattle.rfb_server.specs.Server.{Serving, server, first_server}
use Rattle.rfb_server.specs.Model.{SessionStandsFor, with_screen}
use Rattle.rfb_server.proofs.ServerLaws.{client_bytes_laws, session_over}
use Rattle.rfb_viewer.specs.declared.viewer.Viewer.{Viewer}
use Rattle.rfb_viewer.specs.Model.{StandsFor as ViewerStandsFor}
use Rattle.rfb_viewer.specs.Told.{ViewerTold}
use Rattle.rfb_viewer.specs.Viewer.{first_viewer, viewer as viewer_end}
use Rattle.rfb_session.specs.declared.share.Share.{Share}
use Rattle.rfb_session.specs.declared.share.event.Heard.{Heard}
use Rattle.rfb_session.specs.declared.share.event.ShareFault.TheVariants.{Session as OfSession}
use Rattle.rfb_session.specs.declared.share.event.ShareFault.TheVariants.{NoMemory as Wanting}
use Rattle.rfb_session.specs.declared.share.seat.ShareSeat.{ShareSeat}
use Rattle.rfb_session.specs.TwoEnds.{Carries}
use Rattle.rfb_session.specs.InFlight.{AreMade, Flies, first_flight, server_reply, viewer_reply}
use Rattle.rfb_session.specs.Link.{Ends, LinkState, first_link}
use Rattle.rfb_session.specs.LinkModel.{ServesOver}
use Rattle.rfb_session.specs.declared.event.Event.TheVariants.{ToServer as OfServer, ToViewer as OfViewer}
use Rattle.rfb_session.specs.declared.event.Event.{Event}
use Rattle.rfb_session.specs.Network.{IsReached, Network, Steps, Strokes}
use Rattle.rfb_session.specs.Share.{seat_in, screen_of, serving_in, waits_at, waiting_for}
use Rattle.rfb_session.specs.ShareSeats.{waiting_in, WritesAt, IsNotifiedIn, KeepsShareSeat}
use Rattle.rfb_server.specs.Strokes.{Stroke, IsInside, drawn_by, notice_of}
use Rattle.rfb_session.specs.ShareSteps.{JoinsAs, Full, Joined, DrawsOn}
use Rattle.rfb_session.specs.ShareSteps.{ReceivesAs, RefusesAs, NoneHeard, SeatEmptied, SeatEnded, WritesAs}
use Rattle.rfb_session.specs.ShareViewers.{IsWatchedBy, GoesOn, fresh_over}
use Rattle.rfb_session.proofs.CarryLemmas.{viewer_fed, server_fed, server_keeps}
use Rattle.rfb_session.proofs.DeliveringLemmas.{server_steps, viewer_steps}
use Rattle.rfb_session.proofs.FlightLemmas.{first_flies}
use Rattle.rfb_session.proofs.MoveLemmas.{viewer_flight, server_flight}
use Rattle.rfb_session.proofs.NetworkLemmas.{first_reached, reached_holds}
use Rattle.rfb_session.proofs.SlotLemmas.{became, one_seat, not_both}
use Rattle.rfb_session.proofs.WorldLemmas.{reached_step, reached_stroke}

-- what is carried between a session and a viewer
abbrev pub Between : Ends → Network → Session → Viewer → List ℕ → List ℕ → Type 0
Between e n session viewer to_server to_viewer =
    Carries (ServesOver n.screen) ViewerStandsFor e n.screen session viewer to_server to_viewer
    n.link

-- by the seat that is there
pub by_seat : (e : Ends) (share : Share) (k : ℕ) (viewer : Viewer) (to_server on_way : List ℕ)
    (n : Network) (w : IsWatchedBy e share k viewer to_server on_way n) (seat : ShareSeat) →
    seat_in share k ≡ Some seat →
    Between e n seat.session viewer to_server (on_way ++ waiting_in seat)
by_seat e share k viewer to_server on_way n w seat there =
    subst (λ (s : ShareSeat). Between e n s.session viewer to_server (on_way ++ waiting_in s))
    (one_seat (seat_in share k) w.seat seat w.there there) w.carries

-- other bytes are in flight to the viewer, which are the same
pub to_viewer_same : (e : Ends) (n : Network) (session : Session) (viewer : Viewer)
    (to_server old new : List ℕ) → new ≡ old → Between e n session viewer to_server old →
    Between e n session viewer to_server new
to_viewer_same e n session viewer to_server old new is c =
    subst (λ (q : List ℕ). Between e n session viewer to_server q) (sym is) c

-- the seat has become another over the same screen, which carries what is between it and its viewer
pub watched_as : (e : Ends) (old new : Share) (k : ℕ) (viewer : Viewer) (to_server on_way later : List ℕ)
    (n : Network) (seat : ShareSeat) → IsWatchedBy e old k viewer to_server on_way n →
    seat_in new k ≡ Some seat → screen_of new ≡ screen_of old →
    Between e n seat.session viewer to_server (later ++ waiting_in seat) →
    IsWatchedBy e new k viewer to_server later n
watched_as e old new k viewer to_server on_way later n seat w there screen carries = record {
  seat = seat;
  there = there;
  screen_is = w.screen_is ∙ sym screen;
  reached = w.reached;
  carries = carries;
}

-- by an event of the link's the seat has become another, which carries what is between it and its viewer
pub goes_by : (e : Ends) (share : Share) (k : ℕ) (viewer : Viewer) (to_server on_way : List ℕ) (n : Network)
    (l : LinkState) (event : Event) (seat : ShareSeat) → IsReached e n →
    Steps e n event (record n { link = l }) → seat_in share k ≡ Some seat → n.screen ≡ screen_of share →
    Between e (record n { link = l }) seat.session viewer to_server (on_way ++ waiting_in seat) →
    GoesOn e n share k viewer to_server on_way
goes_by e share k viewer to_server on_way n l event seat reached step there here carries = (
  record n { link = l },
  inr (inl (event, step)),
  record {
    seat = seat;
    there = there;
    screen_is = here;
    reached = reached_step e n (record n { link = l }) event reached step;
    carries = carries;
  },
)

-- ---- a viewer that joins

pub watched_joined : (e : Ends) (old new : Share) (joined : Option ℕ) (k : ℕ) (viewer : Viewer) →
    e.serving ≡ serving_in old → ViewerStandsFor e.viewing viewer first_viewer [] →
    JoinsAs old joined new → joined ≡ Some k →
    IsWatchedBy e new k viewer [] [] (fresh_over e (screen_of new))
watched_joined e old new joined k viewer made fresh (Full taken none same) is =
    absurd (apart joined none is)
  where
    apart : (o : Option ℕ) → o ≡ None → o ≡ Some k → ⊥
    apart o none some = cc
watched_joined e old new joined k viewer made fresh
    (Joined j told within free first seat there begins keeps others) is =
    record {
      seat = seat;
      there = subst (λ (i : ℕ). seat_in new i ≡ Some seat) (one joined told is) there;
      screen_is = refl;
      reached = first_reached e (screen_of new)
          (ap (λ (g : Grid Colour). g.width) keeps.screen
          ∙ ap (λ (s : Serving). s.hello.width) (sym made))
          (ap (λ (g : Grid Colour). g.height) keeps.screen
          ∙ ap (λ (s : Serving). s.hello.height) (sym made));
      carries = record {
        server_has = [];
        viewer_has = [];
        server_is = subst (λ (s : Serving). SessionStandsFor s (screen_of new) seat.session
            (with_screen (screen_of new) (first_server s)) []) (sym made)
            (subst (λ (g : Grid Colour). SessionStandsFor (serving_in old) g seat.session
            (with_screen g (first_server (serving_in old))) []) (sym keeps.screen) begins.fresh);
        viewer_is = fresh;
        flies = subst (λ (bytes : List ℕ). Flies e (first_link e)
            (record (first_flight e) { viewer_gets = bytes }))
            (ap (λ (s : Serving). version_text s.hello.offer) made ∙ sym begins.greets)
            (first_flies e);
      };
    }
  where
    one : (o : Option ℕ) → o ≡ Some j → o ≡ Some k → j ≡ k
    one o some other = cc

-- ---- drawings

-- a drawing makes one screen of the other, and the seat keeps what it stands for
pub watched_stroke : (e : Ends) (old new : Share) (s : Stroke) (k : ℕ) (viewer : Viewer)
    (to_server on_way : List ℕ) (n : Network) (w : IsWatchedBy e old k viewer to_server on_way n)
    (seat : ShareSeat) → IsInside (screen_of old) s → screen_of new ≡ drawn_by s (screen_of old) →
    seat_in new k ≡ Some seat → KeepsShareSeat w.seat seat → GoesOn e n new k viewer to_server on_way
watched_stroke e old new s k viewer to_server on_way n w seat inside is there keeps =
    let had = w.carries in
    let drawn : Strokes s n (record n { screen = screen_of new }) =
    inl (
      subst (λ (g : Grid Colour). IsInside g s) (sym w.screen_is) inside,
      ap (λ (g : Grid Colour). record n { screen = g })
          (is ∙ ap (λ (g : Grid Colour). drawn_by s g) (sym w.screen_is)),
    ) in (
      record n { screen = screen_of new },
      inr (inr (s, drawn)),
      record {
        seat = seat;
        there = there;
        screen_is = refl;
        reached = reached_stroke e n (record n { screen = screen_of new }) s w.reached drawn;
        carries = to_viewer_same e (record n { screen = screen_of new }) seat.session viewer
            to_server (on_way ++ waiting_in w.seat) (on_way ++ waiting_in seat)
            (ap (λ (q : List ℕ). on_way ++ q) keeps.waits)
            (record {
              server_has = had.server_has;
              viewer_has = had.viewer_has;
              server_is = session_over e.serving n.screen (screen_of new) seat.session _ _
                  (keeps.session.stands e.serving n.screen _ _ had.server_is);
              viewer_is = had.viewer_is;
              flies = had.flies;
            });
      },
    )

pub watched_drawn : (e : Ends) (old new : Share) (s : Stroke) (k : ℕ) (viewer : Viewer)
    (to_server on_way : List ℕ) (n : Network) → IsInside (screen_of old) s → DrawsOn old s new →
    IsWatchedBy e old k viewer to_server on_way n → GoesOn e n new k viewer to_server on_way
watched_drawn e old new s k viewer to_server on_way n inside draws w =
    let one = became (λ a b. IsNotifiedIn (notice_of s) a b) (seat_in old k) (seat_in new k) w.seat
    (draws.seats k) w.there in
    watched_stroke e old new s k viewer to_server on_way n w one.0 inside draws.screen one.1 one.2.keeps

-- ---- bytes that reach the seat

pub watched_received : (e : Ends) (old new : Share) (k : ℕ) (bytes : List ℕ) (told : Heard)
    (viewer : Viewer) (to_server later on_way : List ℕ) (n : Network) → AreMade e →
    to_server ≡ take told.used bytes ++ later → ReceivesAs old k bytes told new →
    IsWatchedBy e old k viewer to_server on_way n → GoesOn e n new k viewer later on_way
watched_received e old new k bytes told viewer to_server later on_way n made is r w =
    let front = take told.used bytes in
    let c = subst (λ (q : List ℕ). Between e n r.was.session viewer q (on_way ++ waiting_in r.was))
    is (by_seat e old k viewer to_server on_way n w r.was r.was_there) in
    let one = server_fed (ServesOver n.screen) ViewerStandsFor e n.screen r.was.session
    r.now.session viewer front later (on_way ++ waiting_in r.was) r.told n.link made
    (reached_holds e n w.reached) c (r.hears.fed e.serving n.screen) in
    let all = server_flight e n.link _ c.flies in
    let sum = length-append front later in
    let step = server_steps e n one.0 (length front) (omega (arith, all, sum)) one.1 in
    goes_by e new k viewer later on_way n one.0 (OfServer (length front)) r.now w.reached step r.is_there
    (w.screen_is ∙ sym r.keeps.screen)
    (to_viewer_same e (record n { link = one.0 }) r.now.session viewer later
    ((on_way ++ waiting_in r.was) ++ server_reply r.told) (on_way ++ waiting_in r.now)
    (ap (λ (q : List ℕ). on_way ++ q) r.hears.waits
    ∙ sym (append_assoc on_way (waiting_in r.was) (server_reply r.told))) one.3)

-- what a session ended at is refused by its fault
ended_refused : (old new : Session) (bytes : List ℕ) (fault : ServerFault) →
    EndsAs old bytes fault new → fault ≢ NoMemory → (serving : Serving) (screen : Grid Colour) →
    RefusedBy (server serving) (SessionStandsFor serving screen) old bytes fault
ended_refused old new bytes fault ends some serving screen = λ s prefix stands.
    let r = ends serving screen s prefix stands in
    record {
      items = r.items;
      rest = r.front ++ r.later;
      reads = r.reads;
      quiet = r.quiet;
      bad = (client_bytes_laws serving.hello.offer).bad (acts (server serving) s r.items).point
          r.front r.later fault (r.asked.bad some);
    }

pub watched_never : (e : Ends) (old new : Share) (k : ℕ) (bytes : List ℕ) (fault : ServerFault)
    (viewer : Viewer) (to_server later on_way : List ℕ) (n : Network) → fault ≢ NoMemory →
    to_server ≡ bytes ++ later → RefusesAs old k bytes (OfSession fault) new →
    IsWatchedBy e old k viewer to_server on_way n → ⊥
watched_never e old new k bytes fault viewer to_server later on_way n some is
    (NoneHeard told none all) w = not_both (seat_in old k) w.seat w.there none
watched_never e old new k bytes fault viewer to_server later on_way n some is
    (SeatEmptied told was there gone keeps others) w = apart told
  where
    apart : OfSession fault ≡ Wanting → ⊥
    apart e = cc
watched_never e old new k bytes fault viewer to_server later on_way n some is
    (SeatEnded of told was now there here ends keeps others) w =
    let same : fault ≡ of = one told in
    let c = subst (λ (q : List ℕ). Between e n was.session viewer q (on_way ++ waiting_in was))
    is (by_seat e old k viewer to_server on_way n w was there) in
    server_keeps (ServesOver n.screen) ViewerStandsFor e n.screen was.session viewer bytes later
    (on_way ++ waiting_in was) fault n.link c
    (ended_refused was.session now.session bytes fault
    (subst (λ (f : ServerFault). EndsAs was.session bytes f now.session) (sym same) ends.ends)
    some e.serving n.screen)
  where
    one : OfSession fault ≡ OfSession of → fault ≡ of
    one e = cc

-- ---- bytes that are written, and that reach the viewer

pub watched_written : (e : Ends) (old new : Share) (k count : ℕ) (viewer : Viewer)
    (to_server on_way : List ℕ) (n : Network) → WritesAs old k count new →
    IsWatchedBy e old k viewer to_server on_way n →
    IsWatchedBy e new k viewer to_server (on_way ++ take count (waits_at old k)) n
watched_written e old new k count viewer to_server on_way n writes w =
    let one = became (λ a b. WritesAt count a b) (seat_in old k) (seat_in new k) w.seat
    writes.seat w.there in
    let bytes : waits_at old k ≡ waiting_in w.seat =
    ap (λ (o : Option ShareSeat). waiting_for o) w.there in
    let whole : (on_way ++ take count (waits_at old k)) ++ waiting_in one.0
    ≡ on_way ++ waiting_in w.seat =
    ap (λ (l : List ℕ). (on_way ++ take count l) ++ waiting_in one.0) bytes
    ∙ ap (λ (l : List ℕ). (on_way ++ take count (waiting_in w.seat)) ++ l) one.2.waits
    ∙ append_assoc on_way (take count (waiting_in w.seat)) (drop count (waiting_in w.seat))
    ∙ ap (λ (l : List ℕ). on_way ++ l) (take-append-drop count (waiting_in w.seat)) in
    watched_as e old new k viewer to_server on_way (on_way ++ take count (waits_at old k)) n one.0 w one.1
    writes.keeps.screen
    (to_viewer_same e n one.0.session viewer to_server (on_way ++ waiting_in w.seat)
    ((on_way ++ take count (waits_at old k)) ++ waiting_in one.0) whole
    (subst (λ (s : Session). Between e n s viewer to_server (on_way ++ waiting_in w.seat)) (sym one.2.session)
    w.carries))

pub watched_shown : (e : Ends) (share : Share) (k : ℕ) (old new : Viewer)
    (bytes later : List ℕ) (event : Option ViewerTold) (to_server on_way : List ℕ) (n : Network) →
    AreMade e → on_way ≡ bytes ++ later →
    FedBy (viewer_end e.viewing) (ViewerStandsFor e.viewing) old bytes event new →
    IsWatchedBy e share k old to_server on_way n →
    GoesOn e n share k new (to_server ++ viewer_reply event) later
watched_shown e share k old new bytes later event to_server on_way n made is fed w =
    let waits = waiting_in w.seat in
    let c = to_viewer_same e n w.seat.session old to_server (on_way ++ waits)
    (bytes ++ (later ++ waits))
    (sym (append_assoc bytes later waits) ∙ ap (λ (q : List ℕ). q ++ waits) (sym is)) w.carries in
    let one = viewer_fed (ServesOver n.screen) ViewerStandsFor e n.screen w.seat.session old new
    to_server bytes (later ++ waits) event n.link made (reached_holds e n w.reached) c fed in
    let all = viewer_flight e n.link _ c.flies in
    let sum = length-append bytes (later ++ waits) in
    let step = viewer_steps e n one.0 (length bytes) (omega (arith, all, sum)) one.1 in
    goes_by e share k new (to_server ++ viewer_reply event) later n one.0 (OfViewer (length bytes)) w.seat w.reached
    step w.there w.screen_is one.3
