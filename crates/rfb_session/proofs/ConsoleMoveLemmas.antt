-- What one happening does to the desk of a console that goes on, whatever its door.
use Rattle.std.proofs.Common.{◌≡◌, ◌≢◌, ◌⊎◌, ◌<◌, ◌+◌, ◌∙◌, ◌==◌, ℕ, zero, suc, Bool, List, []}
use Rattle.std.proofs.Common.{Option, Some, None, refl, ap, arith, inl, inr, length, take, if◌then◌else◌}
use Rattle.std.proofs.lemmas.Bool.Decides.{eqb_tells, leb_tells}
use Rattle.rfb_server.specs.Strokes.{Stroke, Bytes, Fill as OneFill, Copy as OneCopy, Hint as OneHint}
use Rattle.rfb_server.specs.Strokes.{Scroll as OneScroll}
use Rattle.rfb_session.specs.declared.console.Outcome.{Outcome}
use Rattle.rfb_session.specs.declared.console.desk.Desk.{Desk}
use Rattle.rfb_session.specs.declared.console.desk.Hold.TheVariants.{Begins}
use Rattle.rfb_session.specs.declared.console.plan.Rules.{Rules}
use Rattle.rfb_session.specs.declared.language.screen.Screen.{Screen as Size}
use Rattle.rfb_session.specs.declared.owner.order.Order.{Order}
use Rattle.rfb_session.specs.declared.owner.order.OwnerLine.{OwnerLine}
use Rattle.rfb_session.specs.declared.owner.order.OwnerLine.TheVariants as Line
use Rattle.rfb_session.specs.doors.Events.{Received, Wrote, Turned, came_by}
use Rattle.rfb_session.specs.doors.Tenants.{Happening, Told, Opened, Declined}
use Rattle.rfb_session.specs.owner.Lines.{IsInPlace}
use Rattle.rfb_session.specs.owner.Reader.{known_after}
use Rattle.rfb_session.specs.owner.ShareLines.{leave_line}
use Rattle.rfb_session.specs.Share.{waits_at}
use Rattle.rfb_session.specs.console.Desk.{lines_of}
use Rattle.rfb_session.specs.declared.share.event.SeatEvent.{SeatEvent}
use Rattle.rfb_session.specs.console.Viewers.{HearsAt, LetsGo, LetsGoFor, Admits}
use Rattle.rfb_session.specs.console.Turns.{TurnsAs, IsFreshDesk, DrawsAs, HoldsAs, ShowsAs, WritesLines, WritesSeat}
use Rattle.rfb_session.specs.console.Console.{ByDoor, OnDesk, NoDesk, Over, Done, RanOut, ObeysSome}
use Rattle.rfb_session.specs.console.History.{left_in}

-- the bytes that came at a door by what happened
abbrev pub came_in : ℕ → Happening → List ℕ
came_in d (Told event) = came_by d event
came_in d (Opened door from) = []
came_in d (Declined from) = []

-- no bytes came from a viewer, and none left
pub record IsSilent (h : Happening) : Type 0 where
  pub came : (d : ℕ) → 0 < d → d < 9 → came_in d h ≡ []
  pub gone : (d : ℕ) → 0 < d → d < 10 → left_in d h ≡ []

-- what is done at a desk by it
pub data DeskMove (h : Happening) (a b : Desk) : Type 0 where
  Alike : IsSilent h → b ≡ a → DeskMove h a b
  Draws : (stroke : Stroke) (done : Bool) → IsSilent h → DrawsAs a stroke done b → DeskMove h a b
  Goes : (k : ℕ) (taken : Bool) → IsSilent h → LetsGo a k taken (leave_line k) b → DeskMove h a b
  Loses : (k : ℕ) (taken : Bool) → IsSilent h → LetsGoFor a k taken b → DeskMove h a b
  Holds : IsSilent h → HoldsAs a Begins b → DeskMove h a b
  Shows : IsSilent h → ShowsAs a b → DeskMove h a b
  Hears : (k : ℕ) (bytes part : List ℕ) (used ended : ℕ) (event : Option SeatEvent) → k < 8 →
      h ≡ Told (Received (k + 1) part) → part ≡ take used bytes → HearsAt a k bytes used ended event b →
      DeskMove h a b
  Writes : (k : ℕ) (bytes : List ℕ) → k < 8 → h ≡ Told (Wrote (k + 1) bytes) →
      bytes ≡ take (length bytes) (waits_at a.share k) → WritesSeat a k (length bytes) b → DeskMove h a b
  WritesOut : (bytes : List ℕ) → h ≡ Told (Wrote 9 bytes) → bytes ≡ take (length bytes) (lines_of a) →
      WritesLines a (length bytes) b → DeskMove h a b
  Turns : (now slow stuck : ℕ) → h ≡ Told (Turned now) → IsSilent h → TurnsAs a now slow stuck b → DeskMove h a b
  Comes : (from : List ℕ) (k : ℕ) (left : Option ℕ) → h ≡ Opened (k + 1) from → Admits a from (Some k) left b →
      DeskMove h a b
  Refuses : (from : List ℕ) (left : Option ℕ) → IsSilent h → Admits a from None left b → DeskMove h a b

-- there is no desk yet; or there is one now; or there was one, and something was done there
pub data Moves (h : Happening) (old new : Option Desk) : Type 0 where
  None_yet : left_in 9 h ≡ [] → old ≡ None → new ≡ None → Moves h old new
  Begun : (size : Size) (name : List ℕ) (rules : Rules) (desk : Desk) → IsSilent h → old ≡ None → new ≡ Some desk →
      IsFreshDesk size name rules desk → Moves h old new
  Moved : (a b : Desk) → old ≡ Some a → new ≡ Some b → DeskMove h a b → Moves h old new

-- ---- doors

pub data AtDoor (door : ℕ) : Type 0 where
  AtOwner : door ≡ 0 → AtDoor door
  AtSeat : (k : ℕ) → k < 8 → door ≡ k + 1 → AtDoor door
  AtLines : door ≡ 9 → AtDoor door
  AtOther : 9 < door → AtDoor door

pub at_door : (door : ℕ) → AtDoor door
at_door zero = AtOwner refl
at_door (suc k) = elim (leb_tells 8 k) [
  | inl far ↦ elim (eqb_tells k 8) [
    | inl same ↦ AtLines (omega (arith, same.1))
    | inr other ↦ AtOther (omega (arith, far.1, other.1))
  ]
  | inr near ↦ AtSeat k (omega (arith, near.1)) (omega arith)
]

-- what follows at each of the doors follows at any
pub by_door : {X : Type 0} {door : ℕ} {owner : Type 0} {seat : ℕ → Type 0} {lines other : Type 0} →
    ByDoor door owner seat lines other → (door ≡ 0 → owner → X) → ((k : ℕ) → seat k → X) →
    (lines → X) → (other → X) → X
by_door {X} {door} does at_owner at_seat at_lines at_other = by (at_door door)
  where
    by : AtDoor door → X
    by (AtOwner is) = at_owner is (does.at_owner is)
    by (AtSeat k within is) = at_seat k (does.at_seat k within is)
    by (AtLines is) = at_lines (does.at_lines is)
    by (AtOther far) = at_other (does.at_other far)

pub if_other : (d door : ℕ) (bytes : List ℕ) → d ≢ door → (if d == door then bytes else []) ≡ []
if_other d door bytes other = elim (eqb_tells d door) [
  | inl same ↦ absurd (other same.1)
  | inr differ ↦ rw (differ.0) refl
]

pub came_elsewhere : (door : ℕ) (bytes : List ℕ) → (door ≡ 0) ⊎ (8 < door) → IsSilent (Told (Received door bytes))
came_elsewhere door bytes where_it_is = record {
  came = λ d some below. if_other d door bytes (λ same. elim where_it_is [
    | inl first ↦ omega (arith, first, same, some)
    | inr far ↦ omega (arith, far, same, below)
  ]);
  gone = λ d some below. refl;
}

pub left_elsewhere : (door : ℕ) (bytes : List ℕ) → (door ≡ 0) ⊎ (9 < door) → IsSilent (Told (Wrote door bytes))
left_elsewhere door bytes where_it_is = record {
  came = λ d some below. refl;
  gone = λ d some below. if_other d door bytes (λ same. elim where_it_is [
    | inl first ↦ omega (arith, first, same, some)
    | inr far ↦ omega (arith, far, same, below)
  ]);
}

-- ---- calls of the desk

pub none_some : {X : Type 0} (o : Option X) (x : X) → o ≡ None → o ≡ Some x → ⊥
none_some o x none some = cc

pub alike : (h : Happening) (old new : Option Desk) → IsSilent h → new ≡ old → Moves h old new
alike h None new silent same = None_yet (silent.gone 9 (omega arith) (omega arith)) refl same
alike h (Some desk) new silent same = Moved desk desk refl same (Alike silent refl)

pub on_desk : (does : Desk → Desk → Type 0) (h : Happening) (old new : Option Desk) (ended ends : Option Outcome) →
    ended ≡ None → ends ≡ None → OnDesk does old ended new ends → (old ≡ None → left_in 9 h ≡ []) →
    ((a b : Desk) → old ≡ Some a → does a b → DeskMove h a b) → Moves h old new
on_desk does h old new ended ends going goes (NoDesk was is) quiet moves = None_yet (quiet was) was is
on_desk does h old new ended ends going goes (Over over same) quiet moves = absurd (over going)
on_desk does h old new ended ends going goes (Done a b was is done) quiet moves =
    Moved a b was is (moves a b was done)
on_desk does h old new ended ends going goes (RanOut ran) quiet moves = absurd (none_some ends _ goes ran)

-- ---- orders

module _ (h : Happening) (silent : IsSilent h) (name : List ℕ) (rules : Rules) (old new : Option Desk)
    (ended ends : Option Outcome) (going : ended ≡ None) (goes : ends ≡ None) where
  quiet : old ≡ None → left_in 9 h ≡ []
  quiet none = silent.gone 9 (omega arith) (omega arith)

  drawn : (s : Stroke) → OnDesk (λ a b. (done : Bool) × DrawsAs a s done b) old ended new ends → Moves h old new
  drawn s draws = on_desk _ h old new ended ends going goes draws quiet
      (λ a b was done. Draws s done.0 silent done.1)

  line_moves : (line : OwnerLine) → ((size : Size) → line ≡ Line.Screen size → old ≡ None) →
      ObeysSome name rules (Some (Order.Line line)) old ended new ends → Moves h old new
  line_moves (Line.Screen size) first obeys = elim obeys [
    | inl fresh ↦ Begun size name rules fresh.0 silent (first size refl) fresh.1 fresh.2
    | inr ran ↦ absurd (none_some ends _ goes ran)
  ]
  line_moves (Line.Fill rect colour) first obeys = drawn (OneFill rect colour) obeys
  line_moves (Line.Copy rect sx sy) first obeys = drawn (OneCopy rect sx sy) obeys
  line_moves (Line.Hint rect sx sy) first obeys = drawn (OneHint rect sx sy) obeys
  line_moves (Line.Scroll rect dx dy) first obeys = drawn (OneScroll rect dx dy) obeys
  line_moves (Line.Pixels rect) first obeys = alike h old new silent obeys
  line_moves (Line.End number) first obeys = elim obeys [
    | inl far ↦ alike h old new silent far.1
    | inr lets ↦ on_desk _ h old new ended ends going goes lets quiet (λ a b was gone. Goes number gone.0 silent gone.1)
  ]
  line_moves Line.Hold first obeys =
      on_desk _ h old new ended ends going goes obeys quiet (λ a b was holds. Holds silent holds)
  line_moves Line.Show first obeys =
      on_desk _ h old new ended ends going goes obeys quiet (λ a b was shows. Shows silent shows)
  line_moves Line.Quit first obeys = alike h old new silent obeys.0

  pub order_moves : (order : Option Order) →
      ((size : Size) → order ≡ Some (Order.Line (Line.Screen size)) → old ≡ None) →
      ObeysSome name rules order old ended new ends → Moves h old new
  order_moves None first obeys = alike h old new silent obeys
  order_moves (Some Order.Nothing) first obeys = alike h old new silent obeys
  order_moves (Some (Order.Line line)) first obeys =
      line_moves line (λ size is. first size (ap (λ (l : OwnerLine). Some (Order.Line l)) is)) obeys
  order_moves (Some (Order.Pixels rect bytes)) first obeys = drawn (Bytes rect bytes.items) obeys
  order_moves (Some (Order.Refused why)) first obeys = alike h old new silent obeys

-- where there is no desk and the line is not the screen's there is none after it
module _ (name : List ℕ) (rules : Rules) (old new : Option Desk) (ended ends : Option Outcome) (was : old ≡ None)
    (goes : ends ≡ None) where
  pub still_none : (does : Desk → Desk → Type 0) → OnDesk does old ended new ends → new ≡ None
  still_none does (NoDesk none is) = is
  still_none does (Over over same) = same ∙ was
  still_none does (Done a b there is done) = absurd (none_some old a was there)
  still_none does (RanOut ran) = absurd (none_some ends _ goes ran)

  line_none : (line : OwnerLine) → ((size : Size) → line ≢ Line.Screen size) →
      ObeysSome name rules (Some (Order.Line line)) old ended new ends → new ≡ None
  line_none (Line.Screen size) other obeys = absurd (other size refl)
  line_none (Line.Fill rect colour) other obeys = still_none _ obeys
  line_none (Line.Copy rect sx sy) other obeys = still_none _ obeys
  line_none (Line.Hint rect sx sy) other obeys = still_none _ obeys
  line_none (Line.Scroll rect dx dy) other obeys = still_none _ obeys
  line_none (Line.Pixels rect) other obeys = obeys ∙ was
  line_none (Line.End number) other obeys = elim obeys [
    | inl far ↦ far.1 ∙ was
    | inr lets ↦ still_none _ lets
  ]
  line_none Line.Hold other obeys = still_none _ obeys
  line_none Line.Show other obeys = still_none _ obeys
  line_none Line.Quit other obeys = obeys.0 ∙ was

  pub order_none : (known : Option Size) (order : Option Order) → known_after known order ≡ None →
      ObeysSome name rules order old ended new ends → new ≡ None
  order_none known None is obeys = obeys ∙ was
  order_none known (Some Order.Nothing) is obeys = obeys ∙ was
  order_none known (Some (Order.Line line)) is obeys = line_none line (not_screen line is) obeys
    where
      not_screen : (line : OwnerLine) → known_after known (Some (Order.Line line)) ≡ None → (size : Size) →
          line ≢ Line.Screen size
      not_screen (Line.Screen own) none size same = cc
      not_screen (Line.Fill rect colour) none size same = cc
      not_screen (Line.Copy rect sx sy) none size same = cc
      not_screen (Line.Hint rect sx sy) none size same = cc
      not_screen (Line.Scroll rect dx dy) none size same = cc
      not_screen (Line.Pixels rect) none size same = cc
      not_screen (Line.End number) none size same = cc
      not_screen Line.Hold none size same = cc
      not_screen Line.Show none size same = cc
      not_screen Line.Quit none size same = cc
  order_none known (Some (Order.Pixels rect bytes)) is obeys = still_none _ obeys
  order_none known (Some (Order.Refused why)) is obeys = obeys ∙ was

-- the size stays known
pub known_stays : (known : Option Size) (order : Option Order) → known_after known order ≡ None → known ≡ None
known_stays known None is = is
known_stays known (Some Order.Nothing) is = is
known_stays known (Some (Order.Line (Line.Screen size))) is = cc
known_stays known (Some (Order.Line (Line.Fill rect colour))) is = is
known_stays known (Some (Order.Line (Line.Copy rect sx sy))) is = is
known_stays known (Some (Order.Line (Line.Hint rect sx sy))) is = is
known_stays known (Some (Order.Line (Line.Scroll rect dx dy))) is = is
known_stays known (Some (Order.Line (Line.Pixels rect))) is = is
known_stays known (Some (Order.Line (Line.End number))) is = is
known_stays known (Some (Order.Line Line.Hold)) is = is
known_stays known (Some (Order.Line Line.Show)) is = is
known_stays known (Some (Order.Line Line.Quit)) is = is
known_stays known (Some (Order.Pixels rect bytes)) is = is
known_stays known (Some (Order.Refused why)) is = is

pub in_place : (known : Option Size) (size : Size) → IsInPlace known (Line.Screen size) → known ≡ None
in_place None size place = refl
in_place (Some other) size place = absurd (place size refl)
