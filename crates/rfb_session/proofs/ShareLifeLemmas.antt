-- The life of a seat goes on with each call of its share.
use Rattle.std.proofs.Common.{◌≡◌, ℕ, List, [], ◌∷◌, ◌++◌, take, drop, take-append-drop, Option}
use Rattle.std.proofs.Common.{Some, None, refl, sym, ap, ◌∙◌, subst, append-nil, append_assoc}
use Rattle.rfb_pixel.specs.declared.colour.Colour.{Colour}
use Rattle.rfb_picture.specs.Grid.{Grid}
use Rattle.rfb_wire.specs.stream.End.{FedBy, RunsOutBy}
use Rattle.rfb_hello.specs.Version.{version_text}
use Rattle.rfb_server.specs.declared.fault.ServerFault.{ServerFault}
use Rattle.rfb_server.specs.declared.session.Session.{Session}
use Rattle.rfb_server.specs.Failed.{EndsAs, EndsAt}
use Rattle.rfb_server.specs.Server.{Serving, server, first_server}
use Rattle.rfb_server.specs.Model.{SessionStandsFor, KeepsSession, Notes, session_fault}
use Rattle.rfb_server.specs.Model.{with_screen}
use Rattle.rfb_server.specs.Told.{ServerTold}
use Rattle.rfb_server.specs.UpdateCall.{SendsUpdate}
use Rattle.rfb_server.proofs.ServerLaws.{session_over}
use Rattle.rfb_session.specs.declared.share.seat.ShareSeat.{ShareSeat}
use Rattle.rfb_session.specs.EngineRun.{Fed, Did, fed_in, sent_in}
use Rattle.rfb_session.specs.InFlight.{server_reply}
use Rattle.rfb_session.specs.LinkBytes.{session_driven}
use Rattle.rfb_session.specs.ServeEngine.{Composed, Drawn}
use Rattle.rfb_session.specs.ShareLives.{HasLived, HasEnded, Lives, GoesOn, Ended}
use Rattle.rfb_session.specs.ShareSeats.{waiting_in, Hears, Ends, WritesAt, Sends}

-- ---- a session that goes on

pub lived_first : (serving : Serving) (screen : Grid Colour) (session : Session) →
    SessionStandsFor serving screen session (with_screen screen (first_server serving)) [] →
    HasLived serving screen session [] []
lived_first serving screen session stands = record {
  first = screen;
  steps = [];
  state = with_screen screen (first_server serving);
  rest = [];
  runs = (refl, refl);
  stands = stands;
  heard_is = refl;
  sent_is = refl;
}

-- bytes that it was fed
pub lived_fed : (serving : Serving) (screen : Grid Colour) (old new : Session)
    (heard sent bytes : List ℕ) (told : Option ServerTold) →
    HasLived serving screen old heard sent →
    ((made : Serving) (over : Grid Colour) → FedBy (server made) (SessionStandsFor made over) old
    bytes told new) →
    HasLived serving screen new (heard ++ bytes) (sent ++ server_reply told)
lived_fed serving screen old new heard sent bytes told was fed =
    let one = fed serving screen was.state was.rest was.stands in
    record {
      first = was.first;
      steps = Fed bytes told ∷ was.steps;
      state = one.0;
      rest = one.1;
      runs = (was.state, was.rest, was.runs, one.3);
      stands = one.2;
      heard_is = ap (λ (l : List ℕ). l ++ bytes) was.heard_is;
      sent_is = ap (λ (l : List ℕ). l ++ server_reply told) was.sent_is;
    }

-- an update that it sent
pub lived_sent : (serving : Serving) (screen : Grid Colour) (old new : Session)
    (heard sent update : List ℕ) → HasLived serving screen old heard sent →
    SendsUpdate screen old new [] update → HasLived serving screen new heard (sent ++ update)
lived_sent serving screen old new heard sent update was sends =
    let one = sends.sent serving was.state was.rest was.stands in
    record {
      first = was.first;
      steps = Did (Composed one.update.bytes) ∷ was.steps;
      state = one.resulting;
      rest = was.rest;
      runs = (
        was.state,
        was.rest,
        was.runs,
        ((one.update.due, one.update.copies, one.update.blocks, one.update.composes), refl),
      );
      stands = one.stands;
      heard_is = was.heard_is ∙ sym (append-nil (fed_in was.steps));
      sent_is = ap (λ (l : List ℕ). l ++ update) was.sent_is
          ∙ ap (λ (l : List ℕ). sent_in (session_driven was.first) was.steps ++ l) one.update.appended;
    }

-- nothing that it stands for has changed
pub lived_kept : (serving : Serving) (screen : Grid Colour) (old new : Session)
    (heard sent : List ℕ) → KeepsSession old new → HasLived serving screen old heard sent →
    HasLived serving screen new heard sent
lived_kept serving screen old new heard sent keeps was = record {
  first = was.first;
  steps = was.steps;
  state = was.state;
  rest = was.rest;
  runs = was.runs;
  stands = keeps.stands serving screen was.state was.rest was.stands;
  heard_is = was.heard_is;
  sent_is = was.sent_is;
}

-- the screen was drawn on
pub lived_drawn : (serving : Serving) (before after : Grid Colour) (old new : Session)
    (heard sent : List ℕ) → KeepsSession old new → HasLived serving before old heard sent →
    HasLived serving after new heard sent
lived_drawn serving before after old new heard sent keeps was = record {
  first = was.first;
  steps = Did (Drawn after) ∷ was.steps;
  state = with_screen after was.state;
  rest = was.rest;
  runs = (was.state, was.rest, was.runs, (refl, refl));
  stands = keeps.stands serving after (with_screen after was.state) was.rest
      (session_over serving before after old was.state was.rest was.stands);
  heard_is = was.heard_is ∙ sym (append-nil (fed_in was.steps));
  sent_is = was.sent_is ∙ sym (append-nil (sent_in (session_driven was.first) was.steps));
}

-- ---- one that has ended

-- it ends at these bytes
pub ended_now : (serving : Serving) (screen : Grid Colour) (old new : Session)
    (heard sent bytes : List ℕ) (fault : ServerFault) → HasLived serving screen old heard sent →
    session_fault new ≡ Some fault → EndsAs old bytes fault new →
    HasEnded serving new (heard ++ bytes) sent
ended_now serving screen old new heard sent bytes fault was fails ends = record {
  fault = fault;
  screen = screen;
  last = old;
  fed = heard;
  slice = bytes;
  later = [];
  lived = was;
  fails = fails;
  ends = ends;
  heard_is = ap (λ (l : List ℕ). heard ++ l) (sym (append-nil bytes));
}

-- bytes that come later have no effect
pub ended_more : (serving : Serving) (session : Session) (heard sent bytes : List ℕ) →
    HasEnded serving session heard sent → HasEnded serving session (heard ++ bytes) sent
ended_more serving session heard sent bytes was = record {
  fault = was.fault;
  screen = was.screen;
  last = was.last;
  fed = was.fed;
  slice = was.slice;
  later = was.later ++ bytes;
  lived = was.lived;
  fails = was.fails;
  ends = was.ends;
  heard_is = ap (λ (l : List ℕ). l ++ bytes) was.heard_is
      ∙ append_assoc was.fed (was.slice ++ was.later) bytes
      ∙ ap (λ (l : List ℕ). was.fed ++ l) (append_assoc was.slice was.later bytes);
}

-- nothing that it has noted has changed
pub ended_kept : (serving : Serving) (old new : Session) (heard sent : List ℕ) →
    KeepsSession old new → HasEnded serving old heard sent → HasEnded serving new heard sent
ended_kept serving old new heard sent keeps was = record {
  fault = was.fault;
  screen = was.screen;
  last = was.last;
  fed = was.fed;
  slice = was.slice;
  later = was.later;
  lived = was.lived;
  fails = keeps.fault_is ∙ was.fails;
  ends = subst (λ (notes : Notes). (made : Serving) (screen : Grid Colour) →
      RunsOutBy (server made) (EndsAt made was.fault screen notes) (SessionStandsFor made screen)
      was.last was.slice) (sym keeps.notes_are) was.ends;
  heard_is = was.heard_is;
}

-- ---- a seat

not_both : (o : Option ServerFault) (fault : ServerFault) → o ≡ Some fault → o ≡ None → ⊥
not_both o fault some none = cc

pub lives_heard : (serving : Serving) (screen : Grid Colour) (old new : ShareSeat)
    (heard taken bytes : List ℕ) (told : Option ServerTold) → Hears bytes told old new →
    Lives serving screen old heard taken → Lives serving screen new (heard ++ bytes) taken
lives_heard serving screen old new heard taken bytes told hears (GoesOn sent lived order) =
    GoesOn (sent ++ server_reply told)
    (lived_fed serving screen old.session new.session heard sent bytes told lived hears.fed)
    (ap (λ (l : List ℕ). taken ++ l) hears.waits
    ∙ sym (append_assoc taken (waiting_in old) (server_reply told))
    ∙ ap (λ (l : List ℕ). l ++ server_reply told) order
    ∙ append_assoc (version_text serving.hello.offer) sent (server_reply told))
lives_heard serving screen old new heard taken bytes told hears (Ended sent ended order) =
    absurd (not_both (session_fault old.session) ended.fault ended.fails hears.going)

pub lives_ended : (serving : Serving) (screen : Grid Colour) (old new : ShareSeat)
    (heard taken bytes : List ℕ) (fault : ServerFault) → Ends bytes fault old new →
    Lives serving screen old heard taken → Lives serving screen new (heard ++ bytes) taken
lives_ended serving screen old new heard taken bytes fault ends (GoesOn sent lived order) =
    Ended sent (ended_now serving screen old.session new.session heard sent bytes fault lived
    ends.fails ends.ends) (ap (λ (l : List ℕ). taken ++ l) ends.waits ∙ order)
lives_ended serving screen old new heard taken bytes fault ends (Ended sent ended order) =
    subst (λ (seat : ShareSeat). Lives serving screen seat (heard ++ bytes) taken)
    (sym (ends.failed ended.fault ended.fails))
    (Ended sent (ended_more serving old.session heard sent bytes ended) order)

pub lives_written : (serving : Serving) (screen : Grid Colour) (old new : ShareSeat)
    (heard taken : List ℕ) (count : ℕ) → WritesAt count old new →
    Lives serving screen old heard taken →
    Lives serving screen new heard (taken ++ take count (waiting_in old))
lives_written serving screen old new heard taken count writes lives = by lives
  where
    all : (taken ++ take count (waiting_in old)) ++ waiting_in new ≡ taken ++ waiting_in old
    all = ap (λ (l : List ℕ). (taken ++ take count (waiting_in old)) ++ l) writes.waits
        ∙ append_assoc taken (take count (waiting_in old)) (drop count (waiting_in old))
        ∙ ap (λ (l : List ℕ). taken ++ l) (take-append-drop count (waiting_in old))

    by : Lives serving screen old heard taken →
        Lives serving screen new heard (taken ++ take count (waiting_in old))
    by (GoesOn sent lived order) =
        GoesOn sent (subst (λ (s : Session). HasLived serving screen s heard sent)
        (sym writes.session) lived) (all ∙ order)
    by (Ended sent ended order) =
        Ended sent (subst (λ (s : Session). HasEnded serving s heard sent)
        (sym writes.session) ended) (all ∙ order)

pub lives_kept : (serving : Serving) (screen : Grid Colour) (old new : ShareSeat)
    (heard taken : List ℕ) → KeepsSession old.session new.session →
    waiting_in new ≡ waiting_in old → Lives serving screen old heard taken →
    Lives serving screen new heard taken
lives_kept serving screen old new heard taken keeps waits (GoesOn sent lived order) =
    GoesOn sent (lived_kept serving screen old.session new.session heard sent keeps lived)
    (ap (λ (l : List ℕ). taken ++ l) waits ∙ order)
lives_kept serving screen old new heard taken keeps waits (Ended sent ended order) =
    Ended sent (ended_kept serving old.session new.session heard sent keeps ended)
    (ap (λ (l : List ℕ). taken ++ l) waits ∙ order)

pub lives_drawn : (serving : Serving) (before after : Grid Colour) (old new : ShareSeat)
    (heard taken : List ℕ) → KeepsSession old.session new.session →
    waiting_in new ≡ waiting_in old → Lives serving before old heard taken →
    Lives serving after new heard taken
lives_drawn serving before after old new heard taken keeps waits (GoesOn sent lived order) =
    GoesOn sent (lived_drawn serving before after old.session new.session heard sent keeps lived)
    (ap (λ (l : List ℕ). taken ++ l) waits ∙ order)
lives_drawn serving before after old new heard taken keeps waits (Ended sent ended order) =
    Ended sent (ended_kept serving old.session new.session heard sent keeps ended)
    (ap (λ (l : List ℕ). taken ++ l) waits ∙ order)

pub lives_sent : (serving : Serving) (screen : Grid Colour) (old new : ShareSeat)
    (heard taken : List ℕ) → Sends screen old new → Lives serving screen old heard taken →
    Lives serving screen new heard taken
lives_sent serving screen old new heard taken sends (GoesOn sent lived order) =
    GoesOn (sent ++ waiting_in new)
    (lived_sent serving screen old.session new.session heard sent (waiting_in new) lived
    sends.update)
    (ap (λ (l : List ℕ). l ++ waiting_in new) (sym (append-nil taken)
    ∙ ap (λ (l : List ℕ). taken ++ l) (sym sends.written) ∙ order)
    ∙ append_assoc (version_text serving.hello.offer) sent (waiting_in new))
lives_sent serving screen old new heard taken sends (Ended sent ended order) =
    absurd (not_both (session_fault old.session) ended.fault ended.fails sends.going)
