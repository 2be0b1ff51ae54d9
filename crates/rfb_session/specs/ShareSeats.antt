-- A seat at a share: what it has, and what its calls make of it, whatever its session's state.
use Rattle.std.specs.Prelude.{◌≡◌, ℕ, ◌≤◌, Bool, true, false, List, [], ◌++◌, drop, length, Option}
use Rattle.std.specs.Prelude.{None, Some}
use Rattle.rfb_pixel.specs.declared.colour.Colour.{Colour}
use Rattle.rfb_picture.specs.Grid.{Grid}
use Rattle.rfb_wire.specs.stream.End.{FedBy}
use Rattle.rfb_hello.specs.Version.{version_text}
use Rattle.rfb_server.specs.declared.fault.ServerFault.{ServerFault}
use Rattle.rfb_server.specs.declared.session.Session.{Session}
use Rattle.rfb_server.specs.Failed.{EndsAs}
use Rattle.rfb_server.specs.KnownScreen.{Follows, IsTold}
use Rattle.rfb_server.specs.Hints.{hints_in}
use Rattle.rfb_server.specs.Room.{update_room}
use Rattle.rfb_server.specs.Server.{Serving, server, first_server}
use Rattle.rfb_server.specs.declared.drawing.notice.Notice.{Notice}
use Rattle.rfb_server.specs.Strokes.{hint_told, with_hint_of}
use Rattle.rfb_server.specs.Model.{SessionStandsFor, session_fault, session_serving}
use Rattle.rfb_server.specs.Model.{KeepsSession, with_screen}
use Rattle.rfb_server.specs.Told.{ServerTold}
use Rattle.rfb_server.specs.UpdateCall.{SendsUpdate, OwesUpdate, OwesNone}
use Rattle.rfb_session.specs.declared.share.event.Composing.{Composing}
use Rattle.rfb_session.specs.declared.share.event.Composing.TheVariants.{Composed, NotDue}
use Rattle.rfb_session.specs.declared.share.event.Composing.TheVariants.{Waiting as Waits}
use Rattle.rfb_session.specs.declared.share.event.Composing.TheVariants.{NoSuchSeat}
use Rattle.rfb_session.specs.declared.share.seat.ShareSeat.{ShareSeat}
use Rattle.rfb_session.specs.declared.share.waiting.Waiting.{Waiting}
use Rattle.rfb_session.specs.declared.share.waiting.Waiting.TheVariants.{Answers, Update, Shared}
use Rattle.rfb_session.specs.InFlight.{server_reply}
use Rattle.rfb_session.specs.ShareRoom.{kept_in, memory_of}

-- ---- what a seat has

abbrev pub session_at : ShareSeat → Session
session_at seat = seat.session

-- the bytes that wait to be written, in order
abbrev pub waiting_in : ShareSeat → List ℕ
waiting_in seat = drop seat.written (kept_in seat.waiting)

-- they are an update's
abbrev pub holds_update : Waiting → Bool
holds_update (Answers answers) = false
holds_update (Update bytes) = true
holds_update (Shared bytes) = true

abbrev pub is_update : ShareSeat → Bool
is_update seat = holds_update seat.waiting

-- the memory that is taken for them
abbrev pub memory_at : ShareSeat → ℕ
memory_at seat = memory_of seat.waiting

-- a session that was fed nothing, whose name has at most 255 bytes
abbrev pub IsFresh : Session → Type 0
IsFresh session =
    (serving : Serving) × (length serving.hello.name ≤ 255) × ((screen : Grid Colour) →
    SessionStandsFor serving screen session (with_screen screen (first_server serving)) [])

-- it has that session, and the session's greeting waits, for which no memory is taken
pub record IsSeatOf (session : Session) (seat : ShareSeat) : Type 0 where
  pub session_is : session_at seat ≡ session
  pub greets : waiting_in seat ≡ version_text (session_serving session).hello.offer
  pub memory : memory_at seat ≡ 0

-- ---- bytes of its viewer's

-- its session, which has not failed, was fed them, whatever its state over whatever screen, and
-- told that of them. Its answer, if that is one, waits after what waited, and no memory is taken
-- for it. Where an update waits there is none
pub record Hears (bytes : List ℕ) (told : Option ServerTold) (old new : ShareSeat) : Type 0 where
  pub going : session_fault (session_at old) ≡ None
  pub fed : (serving : Serving) (screen : Grid Colour) →
      FedBy (server serving) (SessionStandsFor serving screen) (session_at old) bytes told
      (session_at new)
  pub waits : waiting_in new ≡ waiting_in old ++ server_reply told
  pub update : is_update new ≡ is_update old
  pub quiet : is_update old ≡ true → waiting_in new ≡ waiting_in old
  pub memory : memory_at new ≡ memory_at old
  pub made : session_serving (session_at new) ≡ session_serving (session_at old)
  pub hints : hints_in (session_at new) ≡ hints_in (session_at old)

-- its session ended at them by that fault, or had ended by it before; what waited waits
pub record Ends (bytes : List ℕ) (fault : ServerFault) (old new : ShareSeat) : Type 0 where
  pub fails : session_fault (session_at new) ≡ Some fault
  pub ends : EndsAs (session_at old) bytes fault (session_at new)
  pub waits : waiting_in new ≡ waiting_in old
  pub memory : memory_at new ≡ memory_at old
  pub made : session_serving (session_at new) ≡ session_serving (session_at old)
  pub failed : (before : ServerFault) → session_fault (session_at old) ≡ Some before → new ≡ old

-- ---- bytes that are written

-- the first `count` bytes that wait are written, or all. Where none waits any more, the memory that
-- was taken for them is given back. Its session is as it was
pub record WritesAt (count : ℕ) (old new : ShareSeat) : Type 0 where
  pub waits : waiting_in new ≡ drop count (waiting_in old)
  pub memory : memory_at new ≤ memory_at old
  pub freed : waiting_in new ≡ [] → memory_at new ≡ 0
  pub session : session_at new ≡ session_at old

-- ---- composing

-- nothing waited, and an update of the screen does; memory is taken for it, at most the room that
-- composing reserves
pub record Sends (screen : Grid Colour) (old new : ShareSeat) : Type 0 where
  pub going : session_fault (session_at old) ≡ None
  pub written : waiting_in old ≡ []
  pub update : SendsUpdate screen (session_at old) (session_at new) [] (waiting_in new)
  pub room : length (waiting_in new) ≤ update_room (session_at old)
  pub memory : memory_at new ≤ update_room (session_at old)
  pub spent : hints_in (session_at new) ≡ []

-- nothing waited, none was due, nothing waits, and no memory is taken
pub record SendsNone (screen : Grid Colour) (old new : ShareSeat) : Type 0 where
  pub written : waiting_in old ≡ []
  pub none : OwesNone screen (session_at old) (session_at new) [] (waiting_in new)
  pub memory : memory_at new ≡ memory_at old
  pub hints : hints_in (session_at new) ≡ hints_in (session_at old)

-- earlier bytes wait, and nothing has changed
pub record StillWaits (old new : ShareSeat) : Type 0 where
  pub some : waiting_in old ≡ [] → ⊥
  pub same : new ≡ old

abbrev pub ComposesAt : Grid Colour → Composing → ShareSeat → ShareSeat → Type 0
ComposesAt screen Composed old new = Sends screen old new
ComposesAt screen NotDue old new = SendsNone screen old new
ComposesAt screen Waits old new = StillWaits old new
ComposesAt screen NoSuchSeat old new = ⊥

-- nothing waited, an update was due for which there was no memory; nothing waits, and none is taken
pub record WantsRoom (screen : Grid Colour) (old new : ShareSeat) : Type 0 where
  pub going : session_fault (session_at old) ≡ None
  pub written : waiting_in old ≡ []
  pub due : OwesUpdate screen (session_at old)
  pub kept : KeepsSession (session_at old) (session_at new)
  pub waits : waiting_in new ≡ []
  pub memory : memory_at new ≡ memory_at old
  pub hints : hints_in (session_at new) ≡ hints_in (session_at old)

-- ---- drawings and hints

-- what waits is as it was, and its session has nothing new but its marks and hints
pub record KeepsShareSeat (old new : ShareSeat) : Type 0 where
  pub waits : waiting_in new ≡ waiting_in old
  pub update : is_update new ≡ is_update old
  pub memory : memory_at new ≡ memory_at old
  pub session : KeepsSession (session_at old) (session_at new)

-- its session was told of a drawing, and of its hint; nothing else that it has has changed
pub record IsNotifiedIn (notice : Notice) (old new : ShareSeat) : Type 0 where
  pub keeps : KeepsShareSeat old new
  pub hints : hints_in (session_at new)
      ≡ with_hint_of (hint_told notice) (hints_in (session_at old))
  pub follows : (before after : Grid Colour) → Follows before (session_at old) →
      IsTold notice before after → Follows after (session_at new)
