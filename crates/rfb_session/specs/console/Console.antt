-- What a console is behind its doors, and what happens there.
use Rattle.std.specs.Prelude.{◌≡◌, ◌≢◌, ◌<◌, ◌≤◌, ◌⊎◌, ℕ, ◌+◌, ◌-◌, ◌==◌, Bool, true, false, nat_le, ◌&&◌, not}
use Rattle.std.specs.Prelude.{List, [], Option, Some, None, length, take, slice_index_or, if◌then◌else◌}
use Rattle.std.specs.Prelude.{is_some, nat_lt, cond, ◌||◌}
use Rattle.rfb_server.specs.Strokes.{Stroke, Bytes, Fill as OneFill, Copy as OneCopy, Hint as OneHint}
use Rattle.rfb_server.specs.Strokes.{Scroll as OneScroll}
use Rattle.rfb_session.specs.declared.console.Console.{Console}
use Rattle.rfb_session.specs.declared.console.Outcome.{Outcome}
use Rattle.rfb_session.specs.declared.console.Outcome.TheVariants.{Quit, Idle, BadLine, NoMemory, Device, ServerGone}
use Rattle.rfb_session.specs.declared.console.desk.Desk.{Desk}
use Rattle.rfb_session.specs.declared.console.desk.Hold.TheVariants.{Begins}
use Rattle.rfb_session.specs.declared.console.plan.Rules.{Rules}
use Rattle.rfb_session.specs.declared.language.screen.Screen.{Screen as Size}
use Rattle.rfb_session.specs.declared.owner.order.Order.{Order}
use Rattle.rfb_session.specs.declared.owner.order.OwnerLine.{OwnerLine}
use Rattle.rfb_session.specs.declared.owner.order.OwnerLine.TheVariants as Line
use Rattle.rfb_session.specs.declared.share.event.SeatEvent.{SeatEvent}
use Rattle.rfb_session.specs.doors.Events.{Event, Received, Ended, Failed, Wrote, Turned}
use Rattle.rfb_session.specs.owner.Reader.{Feeds, ClosesFrom, IsFreshReader}
use Rattle.rfb_session.specs.owner.ShareLines.{leave_line}
use Rattle.rfb_session.specs.Share.{waits_at}
use Rattle.rfb_session.specs.console.Desk.{guest_at, lines_of, is_over, is_heard, is_idle}
use Rattle.rfb_session.specs.console.Viewers.{HearsAt, LetsGo, LetsGoFor, Admits}
use Rattle.rfb_session.specs.console.Turns.{TurnsAs, IsFreshDesk, DrawsAs, HoldsAs, ShowsAs}
use Rattle.rfb_session.specs.console.Time.{waits_for}
use Rattle.rfb_session.specs.console.Turns.{WritesLines, WritesSeat}

-- ---- doors

-- the lines that wait for the owner
abbrev pub lines_on : Option Desk → List ℕ
lines_on None = []
lines_on (Some desk) = lines_of desk

-- the bytes that wait at a seat
abbrev pub seat_waits : Option Desk → ℕ → List ℕ
seat_waits None k = []
seat_waits (Some desk) k = waits_at desk.share k

-- whether nobody sits at a seat, or who sits there has failed
abbrev pub seat_over : Option Desk → ℕ → Bool
seat_over None k = true
seat_over (Some desk) k = is_over (guest_at desk k).progress

-- whether more of the viewer of a seat is read
abbrev pub seat_heard : Option Desk → ℕ → Bool
seat_heard None k = false
seat_heard (Some desk) k = is_heard desk k

-- a door is a seat's: they have the doors 1 to 8
abbrev pub is_seat : ℕ → Bool
is_seat d = nat_le 1 d && nat_le d 8

-- few lines wait for the owner, so a newcomer can be reported
abbrev pub has_room : Option Desk → Bool
has_room None = false
has_room (Some desk) = nat_lt (length (lines_of desk)) 65536

-- the device that lines go to has failed
abbrev pub is_lost : Option Outcome → Bool
is_lost None = false
is_lost (Some Quit) = false
is_lost (Some Idle) = false
is_lost (Some (BadLine line)) = false
is_lost (Some NoMemory) = false
is_lost (Some Device) = true
is_lost (Some (ServerGone gone)) = false

-- nothing that waits is written any more: memory was wanting, or the device that lines go to has failed
abbrev pub is_abrupt : Option Outcome → Bool
is_abrupt (Some NoMemory) = true
is_abrupt (Some Device) = true
is_abrupt other = false

-- the desk has done so; or there is none; or all has ended before, and nothing was done; or memory for a line
-- was wanting, with which all ends
pub data OnDesk (does : Desk → Desk → Type 0) (old : Option Desk) (ended : Option Outcome)
    (new : Option Desk) (ends : Option Outcome) : Type 0 where
  NoDesk : old ≡ None → new ≡ None → OnDesk does old ended new ends
  Over : ended ≢ None → new ≡ old → OnDesk does old ended new ends
  Done : (a b : Desk) → old ≡ Some a → new ≡ Some b → does a b → OnDesk does old ended new ends
  RanOut : ends ≡ Some NoMemory → OnDesk does old ended new ends

-- ---- how all ends

-- it goes on as it did, or memory was wanting, with which all ends
abbrev pub RunsOut : Option Outcome → Option Outcome → Type 0
RunsOut old new = (new ≡ old) ⊎ (new ≡ Some NoMemory)

-- the same, or a line of the owner's said so
abbrev pub LineEnds : Option Outcome → Option Outcome → Type 0
LineEnds old new = RunsOut old new ⊎ (new ≡ Some Quit)

-- the owner has ended it: by a line, or by one that gives no screen
abbrev pub OwnerEnds : Option Desk → Option Outcome → Type 0
OwnerEnds desk new = (new ≡ Some Quit) ⊎ ((desk ≡ None) × ((line : ℕ) × (new ≡ Some (BadLine line))))

-- some viewer's handshake was done, and the last of them has gone
abbrev pub IsIdle : Option Desk → Type 0
IsIdle None = ⊥
IsIdle (Some desk) = is_idle desk ≡ true

-- ---- what the owner says

-- a drawing is done, or leaves the screen
abbrev pub Draws : Stroke → Option Desk → Option Outcome → Option Desk → Option Outcome → Type 0
Draws stroke old ended new ends = OnDesk (λ a b. (done : Bool) × DrawsAs a stroke done b) old ended new ends

-- the screen is there, or there was no memory for it
abbrev pub OpensDesk : List ℕ → Rules → Size → Option Desk → Option Outcome → Type 0
OpensDesk name rules size new ends =
    ((desk : Desk) × (new ≡ Some desk) × IsFreshDesk size name rules desk) ⊎ (ends ≡ Some NoMemory)

-- a line is done, as far as it can be: nothing is drawn before there is a screen
abbrev pub ObeysLine : List ℕ → Rules → OwnerLine → Option Desk → Option Outcome → Option Desk → Option Outcome →
    Type 0
ObeysLine name rules (Line.Screen size) old ended new ends = OpensDesk name rules size new ends
ObeysLine name rules (Line.Fill rect colour) old ended new ends = Draws (OneFill rect colour) old ended new ends
ObeysLine name rules (Line.Copy rect sx sy) old ended new ends = Draws (OneCopy rect sx sy) old ended new ends
ObeysLine name rules (Line.Hint rect sx sy) old ended new ends = Draws (OneHint rect sx sy) old ended new ends
ObeysLine name rules (Line.Scroll rect dx dy) old ended new ends = Draws (OneScroll rect dx dy) old ended new ends
ObeysLine name rules (Line.Pixels rect) old ended new ends = new ≡ old
ObeysLine name rules (Line.End number) old ended new ends =
    ((8 ≤ number) × (new ≡ old))
    ⊎ OnDesk (λ a b. (taken : Bool) × LetsGo a number taken (leave_line number) b) old ended new ends
ObeysLine name rules Line.Hold old ended new ends = OnDesk (λ a b. HoldsAs a Begins b) old ended new ends
ObeysLine name rules Line.Show old ended new ends = OnDesk ShowsAs old ended new ends
ObeysLine name rules Line.Quit old ended new ends = (new ≡ old) × (ends ≡ Some Quit)

abbrev pub Obeys : List ℕ → Rules → Order → Option Desk → Option Outcome → Option Desk → Option Outcome → Type 0
Obeys name rules Order.Nothing old ended new ends = new ≡ old
Obeys name rules (Order.Line line) old ended new ends = ObeysLine name rules line old ended new ends
Obeys name rules (Order.Pixels rect bytes) old ended new ends = Draws (Bytes rect bytes.items) old ended new ends
Obeys name rules (Order.Refused why) old ended new ends = new ≡ old

abbrev pub ObeysSome : List ℕ → Rules → Option Order → Option Desk → Option Outcome → Option Desk →
    Option Outcome → Type 0
ObeysSome name rules None old ended new ends = new ≡ old
ObeysSome name rules (Some order) old ended new ends = Obeys name rules order old ended new ends

-- ---- doors

-- one thing at the owner's door, one at a seat's, another at that of lines, and one at any other
pub record ByDoor (door : ℕ) (owner : Type 0) (seat : ℕ → Type 0) (lines other : Type 0) : Type 0 where
  pub at_owner : door ≡ 0 → owner
  pub at_seat : (k : ℕ) → k < 8 → door ≡ k + 1 → seat k
  pub at_lines : door ≡ 9 → lines
  pub at_other : 9 < door → other

module _ {S : Type 0} where
  abbrev pub waiting_at : Console S → ℕ → List ℕ
  waiting_at console d =
      if d == 10 then console.notes.items
      else (if d == 9 then lines_on console.desk
      else (if is_seat d then seat_waits console.desk (d - 1) else []))

  abbrev pub space_at : Console S → ℕ → ℕ
  space_at console d = slice_index_or console.rooms d 0

  abbrev pub closed_at : Console S → ℕ → Bool
  closed_at console d =
      if d == 0 then console.has_input_ended
      else (if d == 9 then is_lost console.outcome
      else (if d == 10 then console.are_notes_lost
      else (if is_seat d then seat_over console.desk (d - 1) else true)))

  -- how much of the owner is read in one turn: nothing once its input or all has ended, or while many notes wait
  abbrev pub room_of_owner : Console S → ℕ
  room_of_owner console =
      cond (not console.has_input_ended && not (is_some console.outcome) && nat_lt (length console.notes.items) 65536)
      65536 0

  -- how much of a viewer is read in one turn: nothing once all has ended, or where it is not heard
  abbrev pub room_of_seat : Console S → ℕ → ℕ
  room_of_seat console k = cond (not (is_some console.outcome) && seat_heard console.desk k) 1024 0

  -- so much is taken at the owner's door, and at each seat's
  pub record OpensRooms (new : Console S) : Type 0 where
    pub owner : space_at new 0 ≡ room_of_owner new
    pub seats : (k : ℕ) → k < 8 → space_at new (k + 1) ≡ room_of_seat new k

  -- a console that was told nothing
  pub record IsFreshConsole (console : Console S) : Type 0 where
    pub desk : console.desk ≡ None
    pub reader : IsFreshReader console.reader
    pub outcome : console.outcome ≡ None
    pub notes : console.notes.items ≡ []

  -- the owner's side is as it was
  pub record KeepsOwner (old new : Console S) : Type 0 where
    pub reader : new.reader ≡ old.reader
    pub input : new.has_input_ended ≡ old.has_input_ended

  -- nothing is done at the desk, and nothing at the owner's side
  pub record KeepsDesk (old new : Console S) : Type 0 where
    pub desk : new.desk ≡ old.desk
    pub owner : KeepsOwner old new

  -- what it was made with is as it was, and if all had ended before it stays so
  pub record Stays (old new : Console S) : Type 0 where
    pub rules : new.rules ≡ old.rules
    pub name : new.name ≡ old.name
    pub ended : old.outcome ≢ None → new.outcome ≢ None

  -- all but the desk and the outcome, notes and how many lines came, is as it was
  pub record KeepsSide (old new : Console S) : Type 0 where
    pub owner : KeepsOwner old new
    pub rooms : new.rooms ≡ old.rooms
    pub stays : Stays old new

  -- nothing but how much is taken at each door
  pub record KeepsButRooms (old new : Console S) : Type 0 where
    pub desk : new.desk ≡ old.desk
    pub outcome : new.outcome ≡ old.outcome
    pub owner : KeepsOwner old new
    pub notes : new.notes ≡ old.notes
    pub next : new.next ≡ old.next
    pub stays : Stays old new

  -- nothing but when the next turn is wanted
  pub record KeepsButNext (old new : Console S) : Type 0 where
    pub desk : new.desk ≡ old.desk
    pub outcome : new.outcome ≡ old.outcome
    pub notes : new.notes ≡ old.notes
    pub side : KeepsSide old new

  -- nothing but notes has changed
  pub record KeepsButNotes (old new : Console S) : Type 0 where
    pub desk : new.desk ≡ old.desk
    pub outcome : new.outcome ≡ old.outcome
    pub next : new.next ≡ old.next
    pub side : KeepsSide old new

  -- ---- what happens

  -- a call of the desk, and nothing at the owner's side
  pub record DoesOnDesk (does : Desk → Desk → Type 0) (old new : Console S) : Type 0 where
    pub desk : OnDesk does old.desk old.outcome new.desk new.outcome
    pub owner : KeepsOwner old new

  -- the same, also once all has ended
  pub record DoesAlways (does : Desk → Desk → Type 0) (old new : Console S) : Type 0 where
    pub desk : OnDesk does old.desk None new.desk None
    pub owner : KeepsOwner old new

  -- bytes came at a seat, and so many were taken
  abbrev pub HearsBytes : Console S → ℕ → List ℕ → ℕ → Option SeatEvent → Console S → Type 0
  HearsBytes old k bytes used event new =
      DoesOnDesk (λ a b. (ended : ℕ) × HearsAt a k bytes used ended event b) old new

  -- these are they
  abbrev pub HearsSeat : Console S → ℕ → List ℕ → Console S → Type 0
  HearsSeat old k part new =
      (bytes : List ℕ) × (used : ℕ) × (event : Option SeatEvent) × (part ≡ take used bytes)
      × HearsBytes old k bytes used event new

  -- the viewer of a seat has left, and its connection has failed
  abbrev pub LeavesSeat : Console S → ℕ → Console S → Type 0
  LeavesSeat old k new = DoesOnDesk (λ a b. (taken : Bool) × LetsGo a k taken (leave_line k) b) old new

  abbrev pub LosesSeat : Console S → ℕ → Console S → Type 0
  LosesSeat old k new = DoesOnDesk (λ a b. (taken : Bool) × LetsGoFor a k taken b) old new

  -- a turn, at this time
  abbrev pub TurnsDesk : Console S → ℕ → Console S → Type 0
  TurnsDesk old now new = DoesOnDesk (λ a b. (slow stuck : ℕ) × TurnsAs a now slow stuck b) old new

  -- unless all has ended, the next one is wanted when the desk wants it
  abbrev pub NamesNext : Console S → Type 0
  NamesNext new = new.outcome ≡ None → (desk : Desk) → new.desk ≡ Some desk → new.next ≡ desk.next

  -- ---- what the owner says

  -- an order of the owner's is obeyed, as far as it can be
  abbrev pub ObeysOrder : Console S → Order → Console S → Type 0
  ObeysOrder old order new = Obeys old.name.items old.rules order old.desk old.outcome new.desk new.outcome

  -- bytes of the owner's: they are read, and what they say is obeyed once; after the end they are not
  pub data HearsOwner (old : Console S) (part : List ℕ) (new : Console S) : Type 0 where
    Ignored : old.outcome ≢ None → new.desk ≡ old.desk → KeepsOwner old new → HearsOwner old part new
    Heard : (order : Option Order) → Feeds old.reader part order new.reader →
        ObeysSome old.name.items old.rules order old.desk old.outcome new.desk new.outcome →
        new.has_input_ended ≡ old.has_input_ended → HearsOwner old part new

  -- no more of them come: what came after the last newline is obeyed as a line, once
  pub data EndsOwner (old new : Console S) : Type 0 where
    EndedBefore : (old.has_input_ended ≡ true) ⊎ (old.outcome ≢ None) → new.desk ≡ old.desk →
        new.reader ≡ old.reader → EndsOwner old new
    EndsNow : (order : Option Order) → ClosesFrom old.reader.screen old.reader.stage order new.reader →
        (ends : Option Outcome) → ObeysSome old.name.items old.rules order old.desk old.outcome new.desk ends →
        (ends ≢ None → new.outcome ≡ ends) → new.has_input_ended ≡ true → EndsOwner old new

  -- ---- all that happens at the doors

  -- its owner is not heard any more, and what came of a line is passed over
  pub record LosesOwner (old new : Console S) : Type 0 where
    pub desk : new.desk ≡ old.desk
    pub reader : new.reader ≡ old.reader
    pub input : new.has_input_ended ≡ true

  abbrev pub Does : Console S → Event → Console S → Type 0
  Does old (Received door bytes) new =
      ByDoor door (HearsOwner old bytes new) (λ k. HearsSeat old k bytes new)
      (KeepsDesk old new) (KeepsDesk old new)
  Does old (Ended door) new =
      ByDoor door (EndsOwner old new) (λ k. LeavesSeat old k new) (KeepsDesk old new) (KeepsDesk old new)
  Does old (Failed door) new =
      ByDoor door (LosesOwner old new) (λ k. LosesSeat old k new)
      (KeepsDesk old new × (new.outcome ≡ Some Device)) (KeepsDesk old new)
  Does old (Wrote door bytes) new =
      ByDoor door (KeepsDesk old new)
      (λ k. DoesAlways (λ a b. WritesSeat a k (length bytes) b) old new)
      (DoesAlways (λ a b. WritesLines a (length bytes) b) old new) (KeepsDesk old new)
  Does old (Turned now) new = TurnsDesk old now new × NamesNext new × OpensRooms new

  -- in a turn all may end for want of memory; or without viewers, if that is wanted
  abbrev pub TurnEnds : Console S → Console S → Type 0
  TurnEnds old new =
      RunsOut old.outcome new.outcome
      ⊎ ((old.rules.until_idle ≡ true) × IsIdle new.desk × (new.outcome ≡ Some Idle))

  -- all ends for want of memory, or by its owner's doing; where lines are lost; or in a turn without viewers, if
  -- that is wanted
  abbrev pub EndsAs : Console S → Event → Console S → Type 0
  EndsAs old (Received door bytes) new =
      RunsOut old.outcome new.outcome ⊎ ((door ≡ 0) × OwnerEnds new.desk new.outcome)
  EndsAs old (Ended door) new =
      RunsOut old.outcome new.outcome ⊎ ((door ≡ 0) × OwnerEnds new.desk new.outcome)
  EndsAs old (Failed door) new =
      RunsOut old.outcome new.outcome ⊎ ((door ≡ 0) × OwnerEnds new.desk new.outcome)
      ⊎ ((door ≡ 9) × (new.outcome ≡ Some Device))
  EndsAs old (Wrote door bytes) new = new.outcome ≡ old.outcome
  EndsAs old (Turned now) new = TurnEnds old new

  -- bytes that left are those that waited first
  abbrev pub Left : Console S → Event → Type 0
  Left old (Received door bytes) = Unit {0}
  Left old (Ended door) = Unit {0}
  Left old (Failed door) = Unit {0}
  Left old (Wrote door bytes) = bytes ≡ take (length bytes) (waiting_at old door)
  Left old (Turned now) = Unit {0}

  -- so it is at each event
  pub record Steps (old : Console S) (event : Event) (new : Console S) : Type 0 where
    pub does : Does old event new
    pub ends : EndsAs old event new
    pub left : Left old event
    pub stays : Stays old new

  -- ---- who comes, and when all has ended

  -- a newcomer is welcome: there is a screen, few lines wait, and all goes on
  abbrev pub is_welcome : Console S → Bool
  is_welcome console = has_room console.desk && not (is_some console.outcome)

  -- lines and notes that wait for the owner have left, or nobody reads them
  abbrev pub has_told : Console S → Bool
  has_told console =
      not (waits_for (lines_on console.desk)) && (not (waits_for console.notes.items) || console.are_notes_lost)

  -- all has ended: for want of memory or where lines are lost at once, else once what waits has left or its time is
  -- over
  abbrev pub has_ended : Console S → Bool
  has_ended console =
      is_some console.outcome && (console.is_over || is_abrupt console.outcome || has_told console)

  -- a connection from there has the door of a seat, which it has just taken
  pub record OpensAs (old : Console S) (door : ℕ) (from : List ℕ) (new : Console S) : Type 0 where
    pub was : Desk
    pub now : Desk
    pub was_there : old.desk ≡ Some was
    pub is_there : new.desk ≡ Some now
    pub seat : ℕ
    pub door_is : door ≡ seat + 1
    pub left : Option ℕ
    pub admits : Admits was from (Some seat) left now
    pub owner : KeepsOwner old new
    pub stays : Stays old new

  -- it has none: there is no screen yet, or none is free and a line says so; or memory for that was wanting
  pub data Declines (old : Console S) (from : List ℕ) (new : Console S) : Type 0 where
    NotYet : KeepsDesk old new → Declines old from new
    IsFull : (was now : Desk) → old.desk ≡ Some was → new.desk ≡ Some now → (left : Option ℕ) →
        Admits was from None left now → KeepsOwner old new → Declines old from new
    WantsMemory : new.outcome ≡ Some NoMemory → Declines old from new

  pub record DeclinesAs (old : Console S) (from : List ℕ) (new : Console S) : Type 0 where
    pub declines : Declines old from new
    pub stays : Stays old new
