-- A seat of a share whose screen is a viewer's picture goes on as a link does while the picture changes.
use Rattle.std.proofs.Common.{◌≡◌, ℕ, ◌+◌, ◌-◌, ◌*◌, ◌<◌, true, List, length}
use Rattle.std.proofs.Common.{Some, sym, ap, ◌∙◌}
use Rattle.std.proofs.Common.{subst, arith, Result}
use Rattle.std.proofs.lemmas.Bool.Decides.{nat_tests}
use Rattle.std.proofs.lemmas.List.{get_or_default}
use Rattle.rfb_pixel.specs.declared.colour.Colour.{Colour}
use Rattle.rfb_picture.specs.Grid.{Grid, IsGrid, at_or, grid, with_rows}
use Rattle.rfb_picture.specs.Rect.{contains, rect}
use Rattle.rfb_picture.proofs.GridLaws.{changed_is, place_below}
use Rattle.rfb_hello.specs.declared.fed.Fed.{Fed}
use Rattle.rfb_server.specs.Strokes.{Stroke, Rows, IsInside, drawn_by}
use Rattle.rfb_server.specs.KnownScreen.{Follows}
use Rattle.rfb_server.specs.Model.{Notes}
use Rattle.rfb_viewer.specs.declared.call.Call.{Call}
use Rattle.rfb_viewer.specs.declared.event.ViewerEvent.{ViewerEvent}
use Rattle.rfb_viewer.specs.declared.fault.AppendFault.{AppendFault}
use Rattle.rfb_viewer.specs.declared.fault.ViewerFault.{ViewerFault}
use Rattle.rfb_viewer.specs.declared.viewer.Viewer.{Viewer}
use Rattle.rfb_viewer.specs.Moved.{moved_of}
use Rattle.rfb_session.specs.declared.share.Share.{Share}
use Rattle.rfb_session.specs.declared.share.seat.ShareSeat.{ShareSeat}
use Rattle.rfb_session.specs.Link.{Ends}
use Rattle.rfb_session.specs.Network.{Network}
use Rattle.rfb_session.specs.Share.{seat_in, screen_of}
use Rattle.rfb_session.specs.ShareMirrors.{HasCopies, HasTold, FeedsOn, FailsOn, MakesOn, ShowsOther, Relays}
use Rattle.rfb_session.specs.ShareSeats.{session_at, KeepsShareSeat}
use Rattle.rfb_session.specs.ShareViewers.{IsWatchedBy, GoesOn, StaysWatched}
use Rattle.rfb_session.specs.Slots.{OnSlot}
use Rattle.rfb_session.proofs.ShareRelayLemmas.{slot_by}
use Rattle.rfb_session.proofs.ShareViewerLemmas.{watched_stroke}
use Rattle.rfb_session.proofs.SlotLemmas.{became, each_seat}

-- ---- one picture is drawn over by another

-- the whole of a screen, by the rows of a picture of its size
abbrev whole_of : Grid Colour → Stroke
whole_of screen = Rows (rect 0 0 screen.width screen.height) screen.places

whole_drawn : (old : Grid Colour) (places : List Colour) → IsGrid old → length places ≡ old.height * old.width →
    grid old.width old.height places ≡ with_rows (rect 0 0 old.width old.height) places old
whole_drawn old places whole size =
    changed_is _ old places whole (size ∙ sym whole)
    (λ x y d p q.
    let inside : contains (rect 0 0 old.width old.height) x y ≡ true = grind (arith, nat_tests) in
    let column : x - 0 ≡ x = omega arith in
    let row : y - 0 ≡ y = omega arith in
    let at : y * old.width + x < length places = omega (arith, size, place_below old.width old.height x y p q) in
    rw (inside, column, row) (get_or_default places (y * old.width + x) d (at_or old x y d) at))

is_whole : (old new : Grid Colour) → IsGrid old → IsGrid new → new.width ≡ old.width →
    new.height ≡ old.height →
    IsInside old (whole_of new) × (new ≡ drawn_by (whole_of new) old)
is_whole old new whole_old whole_new wide high = (
  ((omega (arith, wide), omega (arith, high)), whole_new),
  subst (λ (w : ℕ). new ≡ with_rows (rect 0 0 w new.height) new.places old) (sym wide)
      (subst (λ (h : ℕ). new ≡ with_rows (rect 0 0 old.width h) new.places old) (sym high)
      (same ∙ whole_drawn old new.places whole_old size)),
)
  where
    size : length new.places ≡ old.height * old.width
    size = whole_new
        ∙ ap (λ (h : ℕ). h * new.width) high ∙ ap (λ (w : ℕ). old.height * w) wide

    same : new ≡ grid old.width old.height new.places
    same = ap (λ (w : ℕ). grid w new.height new.places) wide ∙ ap (λ (h : ℕ). grid old.width h new.places) high

-- ---- a seat

pub follows : (share : Share) (k : ℕ) (seat : ShareSeat) → seat_in share k ≡ Some seat →
    Follows (screen_of share) (session_at seat)
follows share k seat there =
    each_seat (λ (s : ShareSeat). Follows (screen_of share) (session_at s)) share.seats share.follow k seat there

-- each seat keeps what it stands for, over whatever picture is shown
pub watched_told : (e : Ends) (old new : Share) (k : ℕ) (viewer : Viewer) (to_server on_way : List ℕ)
    (n : Network) → OnSlot (λ a b. KeepsShareSeat a b) (seat_in old k) (seat_in new k) →
    IsWatchedBy e old k viewer to_server on_way n → GoesOn e n new k viewer to_server on_way
watched_told e old new k viewer to_server on_way n told w =
    let one = became (λ a b. KeepsShareSeat a b) (seat_in old k) (seat_in new k) w.seat told w.there in
    let before = follows old k w.seat w.there in
    let after = follows new k one.0 one.1 in
    let keeps = one.2 in
    let wide : (screen_of new).width ≡ (screen_of old).width =
    after.alike.columns ∙ ap (λ (s : Notes). s.known.width) keeps.session.notes_are ∙ sym before.alike.columns in
    let high : (screen_of new).height ≡ (screen_of old).height =
    after.alike.rows ∙ ap (λ (s : Notes). s.known.height) keeps.session.notes_are ∙ sym before.alike.rows in
    let whole = is_whole (screen_of old) (screen_of new) before.whole after.whole wide high in
    watched_stroke e old new (whole_of (screen_of new)) k viewer to_server on_way n w one.0 whole.0 whole.1 one.1
    keeps

-- ---- bytes of the server's, and another viewer

pub keeps_copies : (old : Share) (fed : Viewer) (new : Share) (k : ℕ) → Relays old fed new →
    OnSlot (λ a b. KeepsShareSeat a b) (seat_in old k) (seat_in new k)
keeps_copies old fed new k relays =
    slot_by (λ a b. HasCopies (screen_of new) (moved_of fed) a b) (λ a b. KeepsShareSeat a b) (seat_in old k)
    (seat_in new k) (λ a b has. has.keeps) (relays.seats k)

pub keeps_told : (old : Share) (other : Viewer) (new : Share) (k : ℕ) → ShowsOther old other new →
    OnSlot (λ a b. KeepsShareSeat a b) (seat_in old k) (seat_in new k)
keeps_told old other new k shows =
    slot_by (λ a b. HasTold a b) (λ a b. KeepsShareSeat a b) (seat_in old k) (seat_in new k)
    (λ a b has. has.keeps) (shows.seats k)

pub watched_fed : (e : Ends) (old new : Share) (bytes : List ℕ) (fed : Fed ViewerEvent) (k : ℕ) (viewer : Viewer)
    (to_server on_way : List ℕ) (n : Network) → FeedsOn old bytes fed new →
    IsWatchedBy e old k viewer to_server on_way n → GoesOn e n new k viewer to_server on_way
watched_fed e old new bytes fed k viewer to_server on_way n feeds w =
    watched_told e old new k viewer to_server on_way n (keeps_copies old feeds.mid new k feeds.relays) w

pub watched_failed : (e : Ends) (old new : Share) (bytes : List ℕ) (fault : ViewerFault) (k : ℕ) (viewer : Viewer)
    (to_server on_way : List ℕ) (n : Network) → FailsOn old bytes fault new →
    IsWatchedBy e old k viewer to_server on_way n → GoesOn e n new k viewer to_server on_way
watched_failed e old new bytes fault k viewer to_server on_way n fails w =
    watched_told e old new k viewer to_server on_way n (keeps_copies old fails.mid new k fails.relays) w

pub watched_other : (e : Ends) (old new : Share) (other : Viewer) (k : ℕ) (viewer : Viewer)
    (to_server on_way : List ℕ) (n : Network) → ShowsOther old other new →
    IsWatchedBy e old k viewer to_server on_way n → GoesOn e n new k viewer to_server on_way
watched_other e old new other k viewer to_server on_way n shows w =
    watched_told e old new k viewer to_server on_way n (keeps_told old other new k shows) w

-- a call of the server's viewer leaves the seats and the screen
pub watched_made : (old new : Share) (was : Viewer) (call : Call) (before : List ℕ)
    (result : Result (Unit {0}) AppendFault) (after : List ℕ) (k : ℕ) →
    MakesOn old was call before result after new → StaysWatched old k new
watched_made old new was call before result after k makes = λ e viewer to_server on_way n w. record {
  seat = w.seat;
  there = makes.seats k ∙ w.there;
  screen_is = w.screen_is ∙ sym makes.screen;
  reached = w.reached;
  carries = w.carries;
}
