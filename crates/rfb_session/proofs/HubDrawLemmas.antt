-- Drawings on the screen of a hub, and hints.
use Rattle.std.proofs.Common.{◌≡◌, ◌<◌, ◌≤◌, nat_eq, ℕ, false, List, length, set, All, Option, Some, None, inl, inr}
use Rattle.std.proofs.Common.{refl, sym, ap, ◌∙◌, subst, arith}
use Rattle.std.proofs.lemmas.List.{length-set}
use Rattle.std.specs.Option.{ForSome}
use Rattle.rfb_pixel.specs.declared.colour.Colour.{Colour}
use Rattle.rfb_picture.specs.declared.rect.Rect.{Rect}
use Rattle.rfb_picture.specs.Grid.{Grid, Holds}
use Rattle.rfb_hello.specs.declared.version.Version.{Version}
use Rattle.rfb_server.specs.KnownScreen.{Follows}
use Rattle.rfb_server.specs.Strokes.{Stroke, IsInside, drawn_by, notice_of}
use Rattle.rfb_server.specs.Model.{notes_in, serving_with}
use Rattle.rfb_session.specs.declared.hub.Hub.{Hub}
use Rattle.rfb_session.specs.declared.hub.event.HubEvent.{HubEvent}
use Rattle.rfb_session.specs.declared.hub.event.HubTold.{HubTold}
use Rattle.rfb_session.specs.declared.hub.seat.HubSeat.{HubSeat}
use Rattle.rfb_session.specs.Hub.{seat_in}
use Rattle.rfb_session.specs.HubSeats.{KeepsSeat, IsNotifiedOn, SeatStandsFor}
use Rattle.rfb_session.specs.Slots.{seat_at, OnSlot}
use Rattle.rfb_session.specs.HubSteps.{HubActs, StaysAs, SlotSteps, SlotTells, HubSteps, DrawsHub}
use Rattle.rfb_session.specs.Link.{Ends}
use Rattle.rfb_session.specs.Network.{Network, Strokes}
use Rattle.rfb_session.proofs.DrawnLemmas.{link_drawn}
use Rattle.rfb_session.proofs.FollowLemmas.{AllFollow, all_about, all_notified, all_set, all_emptied}
use Rattle.rfb_session.proofs.SlotLemmas.{one_seat, on_seat}

-- ---- what each seat follows

abbrev pub EachFollows : Grid Colour → List (Option HubSeat) → Type 0
EachFollows screen slots = AllFollow (λ seat. seat.link.session) screen slots

pub all_held : (screen : Grid Colour) (slots : List (Option HubSeat)) (rect : Rect) →
    EachFollows screen slots → Holds screen rect →
    All (λ slot. ForSome slot (λ seat. Holds (notes_in seat.link.session).known rect)) slots
all_held screen slots rect follow held =
    all_about (λ seat. seat.link.session) screen slots rect follow held

pub notified_follow : (screen : Grid Colour) (old new : List (Option HubSeat)) (s : Stroke) → EachFollows screen old →
    ((k : ℕ) → OnSlot (λ a b. IsNotifiedOn (notice_of s) a b) (seat_at k old) (seat_at k new)) →
    EachFollows (drawn_by s screen) new
notified_follow screen old new s follow told =
    all_notified (λ seat. seat.link.session) (λ a b. IsNotifiedOn (notice_of s) a b) screen old new s
    (λ a b one. one.follows) follow told

-- one slot is set
pub set_follow : (screen : Grid Colour) (slots : List (Option HubSeat)) (i : ℕ) (x : Option HubSeat) →
    i < length slots → EachFollows screen slots →
    ((seat : HubSeat) → x ≡ Some seat → Follows screen seat.link.session) →
    EachFollows screen (set slots i x)
set_follow screen slots i x within follow one =
    all_set (λ seat. seat.link.session) screen slots i x within follow one

-- all but one slot are emptied
pub emptied_follow : (screen : Grid Colour) (old new : List (Option HubSeat)) (own : ℕ) →
    EachFollows screen old → seat_at own new ≡ seat_at own old →
    ((k : ℕ) → nat_eq k own ≡ false → seat_at k new ≡ None) → EachFollows screen new
emptied_follow screen old new own follow same emptied =
    all_emptied (λ seat. seat.link.session) screen old new own follow same emptied

-- what a hub keeps of its parts, with this screen and these slots
abbrev pub KeepsHub : Grid Colour → List (Option HubSeat) → Type 0
KeepsHub screen slots = record {
  eight : length slots ≡ 8;
  columns : screen.width ≤ 4096;
  rows : screen.height ≤ 4096;
  follow : EachFollows screen slots;
}

-- it keeps it where one slot is set
pub one_set : (hub : Hub) (i : ℕ) (x : Option HubSeat) → i < 8 →
    ((seat : HubSeat) → x ≡ Some seat → Follows hub.screen seat.link.session) →
    KeepsHub hub.screen (set hub.slots i x)
one_set hub i x low one = record {
  eight = length-set hub.slots i x ∙ hub.eight;
  columns = hub.columns;
  rows = hub.rows;
  follow = set_follow hub.screen hub.slots i x (omega (arith, low, hub.eight)) hub.follow one;
}

-- and where all are told of a drawing
pub all_told : (hub : Hub) (screen : Grid Colour) (slots : List (Option HubSeat)) (s : Stroke) →
    length slots ≡ length hub.slots → screen.width ≡ hub.screen.width → screen.height ≡ hub.screen.height →
    screen ≡ drawn_by s hub.screen →
    ((k : ℕ) → OnSlot (λ a b. IsNotifiedOn (notice_of s) a b) (seat_in hub k) (seat_at k slots)) →
    KeepsHub screen slots
all_told hub screen slots s size wide high is told = record {
  eight = size ∙ hub.eight;
  columns = rw wide hub.columns;
  rows = rw high hub.rows;
  follow = rw is (notified_follow hub.screen hub.slots slots s hub.follow told);
}

-- ---- what it is made with

pub made_sized : (offer : Version) (name : List ℕ) (limit w v h g : ℕ) → v ≡ w → g ≡ h →
    serving_with offer v g name limit ≡ serving_with offer w h name limit
made_sized offer name limit w v h g wide high = rw (wide, high) refl

-- ---- steps

-- a seat whose session was notified stands for the network with the new screen
pub seat_drawn : (e : Ends) (before after : Grid Colour) (a b : HubSeat) (n : Network) → KeepsSeat a b →
    SeatStandsFor e before a n → SeatStandsFor e after b (record n { screen = after })
seat_drawn e before after a b n keeps stands = record {
  ours = keeps.foreign_is ∙ stands.ours;
  screen_is = refl;
  link_is = link_drawn e n.screen after a.link b.link n.link stands.link_is keeps.link keeps.session;
}

-- a drawing that was made: of each slot it is one too
pub drawn_does : (screen after : Grid Colour) (old new : List (Option HubSeat)) (s : Stroke) → IsInside screen s →
    after ≡ drawn_by s screen →
    ((k : ℕ) → OnSlot (λ a b. IsNotifiedOn (notice_of s) a b) (seat_at k old) (seat_at k new)) →
    (k : ℕ) (a b : HubSeat) → seat_at k old ≡ Some a → seat_at k new ≡ Some b →
    (e : Ends) (n : Network) → SeatStandsFor e screen a n →
    (m : Network) × Strokes s n m × SeatStandsFor e after b m
drawn_does screen after old new s inside screens told k a b was is e n stands =
    let one = on_seat (λ c d. IsNotifiedOn (notice_of s) c d) (seat_at k old) (seat_at k new) b (told k) is in
    let same : one.0 ≡ a = one_seat (seat_at k old) one.0 a one.1 was in
    let keeps : KeepsSeat a b = subst (λ (s : HubSeat). KeepsSeat s b) same one.2.keeps in
    let here : IsInside n.screen s = subst (λ (g : Grid Colour). IsInside g s) (sym stands.screen_is) inside in
    let shown : drawn_by s n.screen ≡ after = ap (λ (g : Grid Colour). drawn_by s g) stands.screen_is ∙ sym screens in (
      record n { screen = after },
      inl (here, ap (λ (g : Grid Colour). record n { screen = g }) (sym shown)),
      seat_drawn e screen after a b n keeps stands,
    )

-- one that is refused is of each slot refused too
pub refused_does : (hub : Hub) (s : Stroke) → (IsInside hub.screen s → ⊥) →
    (k : ℕ) (a b : HubSeat) → seat_in hub k ≡ Some a → seat_in hub k ≡ Some b →
    (e : Ends) (n : Network) → SeatStandsFor e hub.screen a n →
    (m : Network) × Strokes s n m × SeatStandsFor e hub.screen b m
refused_does hub s outside k a b was is e n stands = (
  n,
  inr (λ inside. outside (subst (λ (g : Grid Colour). IsInside g s) stands.screen_is inside), refl),
  subst (λ (x : HubSeat). SeatStandsFor e hub.screen x n) (one_seat (seat_in hub k) a b was is) stands,
)

-- an event that is a drawing: it is known by what it does, since its name would name a vector
pub drawing_steps : (old new : Hub) (event this : HubEvent) (told : HubTold) (s : Stroke) → event ≡ this →
    DrawsHub old s told new → HubActs old this told new →
    ((k : ℕ) → StaysAs this told k (seat_in old k) (seat_in new k)) →
    ((e : Ends) (n m : Network) (k : ℕ) → Strokes s n m → SlotSteps e n this k m) →
    ((e : Ends) (n : Network) (k : ℕ) → SlotTells e n this k told) →
    HubSteps old event told new
drawing_steps old new event this told s is draws acts stays steps tells =
    subst (λ (ev : HubEvent). HubSteps old ev told new) (sym is)
    (record {
      made = draws.made;
      closed = draws.closed;
      acts = acts;
      others = λ k beside. stays k;
      does = λ k a b was now ours e n fit reached stands.
          let one = draws.does k a b was now e n stands in
          (one.0, steps e n one.0 k one.1, tells e n k, one.2);
      kept = draws.kept;
    })
