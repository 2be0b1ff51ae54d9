-- What the calls of a share make of it: of the screen, of the seat that a call is of, and of the
-- others.
use Rattle.std.specs.Prelude.{◌≡◌, ℕ, ◌<◌, Bool, true, false, ◌&&◌, not, nat_eq, List, [], length, take}
use Rattle.std.specs.Prelude.{Option, Some, None}
use Rattle.rfb_picture.specs.Places.{has_bit}
use Rattle.rfb_server.specs.declared.fault.ServerFault.{ServerFault}
use Rattle.rfb_server.specs.Strokes.{Stroke, drawn_by, notice_of}
use Rattle.rfb_server.specs.Told.{ServerTold, Reply, Ready, Key, Pointer, CutText}
use Rattle.rfb_session.specs.declared.share.Share.{Share}
use Rattle.rfb_session.specs.declared.share.event.Composing.{Composing}
use Rattle.rfb_session.specs.declared.share.event.Composing.TheVariants.{NotDue}
use Rattle.rfb_session.specs.declared.share.event.Composing.TheVariants.{NoSuchSeat as NoneSeated}
use Rattle.rfb_session.specs.declared.share.event.Heard.{Heard}
use Rattle.rfb_session.specs.declared.share.event.SeatEvent.{SeatEvent}
use Rattle.rfb_session.specs.declared.share.event.SeatEvent.TheVariants.{Ready as ReadyEvent}
use Rattle.rfb_session.specs.declared.share.event.SeatEvent.TheVariants.{Key as KeyEvent}
use Rattle.rfb_session.specs.declared.share.event.SeatEvent.TheVariants.{Pointer as PointerEvent}
use Rattle.rfb_session.specs.declared.share.event.SeatEvent.TheVariants.{CutText as TextEvent}
use Rattle.rfb_session.specs.declared.share.event.ShareFault.{ShareFault}
use Rattle.rfb_session.specs.declared.share.event.ShareFault.TheVariants.{NoSuchSeat, Session, NoMemory}
use Rattle.rfb_session.specs.declared.share.seat.ShareSeat.{ShareSeat}
use Rattle.rfb_session.specs.Share.{seat_in, screen_of, canvas_of, viewer_of, serving_in, waits_at, IsFreshIn}
use Rattle.rfb_session.specs.Share.{AllTaken}
use Rattle.rfb_session.specs.ShareSeats.{Hears, Ends, WritesAt, IsNotifiedIn}
use Rattle.rfb_session.specs.ShareSlots.{ComposesIn, WantsRoomIn}
use Rattle.rfb_session.specs.Slots.{is_taken, OnSlot, StaysUnless}

-- ---- what stays

-- the screen is as it was, and whose it is, and so is what its sessions are made with
pub record KeepsScreen (old new : Share) : Type 0 where
  pub screen : screen_of new ≡ screen_of old
  pub canvas : canvas_of new ≡ canvas_of old
  pub viewer : viewer_of new ≡ viewer_of old
  pub made : serving_in new ≡ serving_in old

-- every other seat is as it was: its session, and what waits there
abbrev pub OthersKept : Share → ℕ → Share → Type 0
OthersKept old k new = (j : ℕ) → nat_eq j k ≡ false → seat_in new j ≡ seat_in old j

-- nothing has changed
pub record KeepsAll (old new : Share) : Type 0 where
  pub screen : KeepsScreen old new
  pub seats : (j : ℕ) → seat_in new j ≡ seat_in old j

-- ---- drawings and hints

-- the screen is drawn on, and each session was told; nothing else has changed
pub record DrawsOn (old : Share) (s : Stroke) (new : Share) : Type 0 where
  pub screen : screen_of new ≡ drawn_by s (screen_of old)
  pub canvas : canvas_of new ≡ Some (screen_of new)
  pub seats : (k : ℕ) →
      OnSlot (λ a b. IsNotifiedIn (notice_of s) a b) (seat_in old k) (seat_in new k)
  pub made : serving_in new ≡ serving_in old

-- ---- viewers that come and go

-- a viewer takes the first seat that is empty; where all are taken nothing has changed
pub data JoinsAs (old : Share) (joined : Option ℕ) (new : Share) : Type 0 where
  Full : AllTaken old → joined ≡ None → new ≡ old → JoinsAs old joined new
  Joined : (k : ℕ) → joined ≡ Some k → k < 8 → seat_in old k ≡ None →
      ((j : ℕ) → j < k → is_taken (seat_in old j) ≡ true) →
      (seat : ShareSeat) → seat_in new k ≡ Some seat → IsFreshIn old seat →
      KeepsScreen old new → OthersKept old k new → JoinsAs old joined new

-- a seat is emptied, and the answer says whether it was taken
pub record LeavesAs (old : Share) (k : ℕ) (taken : Bool) (new : Share) : Type 0 where
  pub taken_is : taken ≡ is_taken (seat_in old k)
  pub gone : seat_in new k ≡ None
  pub keeps : KeepsScreen old new
  pub others : OthersKept old k new

-- ---- bytes that a viewer sent

-- what a viewer did: its handshake is done, a key, the pointer, a text
pub data SeatTold : Type 0 where
  IsReady : (shared : Bool) → SeatTold
  OfKey : (down : Bool) → (key : ℕ) → SeatTold
  OfPointer : (buttons : ℕ) → (x : ℕ) → (y : ℕ) → SeatTold
  OfText : (kept : List ℕ) → (text_length : ℕ) → SeatTold

-- as a value of the program has it
abbrev pub event_seen : Option SeatEvent → Option SeatTold
event_seen None = None
event_seen (Some (ReadyEvent shared)) = Some (IsReady shared)
event_seen (Some (KeyEvent down key)) = Some (OfKey down key)
event_seen (Some (PointerEvent buttons x y)) = Some (OfPointer buttons x y)
event_seen (Some (TextEvent kept text_length)) = Some (OfText kept.items text_length)

-- what is reported of a session's events: answers are not
abbrev pub seat_told : Option ServerTold → Option SeatTold
seat_told None = None
seat_told (Some (Reply bytes)) = None
seat_told (Some (Ready bytes shared)) = Some (IsReady shared)
seat_told (Some (Key down key)) = Some (OfKey down key)
seat_told (Some (Pointer buttons x y)) = Some (OfPointer buttons x y)
seat_told (Some (CutText kept text_length)) = Some (OfText kept text_length)

-- what its session reports says that a client asks for the screen alone: its ClientInit has shared-flag 0, RFC 6143
-- section 7.3.1
abbrev pub asks_alone : Option ServerTold → Bool
asks_alone None = false
asks_alone (Some (Reply bytes)) = false
asks_alone (Some (Ready bytes shared)) = not shared
asks_alone (Some (Key down key)) = false
asks_alone (Some (Pointer buttons x y)) = false
asks_alone (Some (CutText kept text_length)) = false

-- the session of the seat was fed those that were taken: up to its first item that is answered or
-- reported, or all. What its viewer did is reported with the seat. Where it asked for the screen
-- alone, and such wishes are heeded, all other seats that are taken are reported as emptied
pub record HearsBy (heeds : Bool) (old : Share) (k : ℕ) (bytes : List ℕ) (heard : Heard) (new : Share)
    : Type 0 where
  pub was : ShareSeat
  pub now : ShareSeat
  pub told : Option ServerTold
  pub was_there : seat_in old k ≡ Some was
  pub is_there : seat_in new k ≡ Some now
  pub hears : Hears (take heard.used bytes) told was now
  pub all : told ≡ None → heard.used ≡ length bytes
  pub seat_is : heard.seat ≡ k
  pub event_is : event_seen heard.event ≡ seat_told told
  pub ended : (j : ℕ) → has_bit heard.ended j
      ≡ ((heeds && asks_alone told) && (not (nat_eq j k) && is_taken (seat_in old j)))
  pub others : (j : ℕ) → nat_eq j k ≡ false →
      StaysUnless (has_bit heard.ended j) (seat_in old j) (seat_in new j)
  pub keeps : KeepsScreen old new

-- the same where such wishes are heeded
abbrev pub ReceivesAs : Share → ℕ → List ℕ → Heard → Share → Type 0
ReceivesAs old k bytes heard new = HearsBy true old k bytes heard new

-- there is no viewer there, and nothing has changed; or there is no memory for its session, and the
-- seat is emptied; or its session has ended, and nothing else has changed
pub data RefusesAs (old : Share) (k : ℕ) (bytes : List ℕ) (fault : ShareFault) (new : Share)
    : Type 0 where
  NoneHeard : fault ≡ NoSuchSeat → seat_in old k ≡ None → KeepsAll old new →
      RefusesAs old k bytes fault new
  SeatEmptied : fault ≡ NoMemory → (was : ShareSeat) → seat_in old k ≡ Some was →
      seat_in new k ≡ None → KeepsScreen old new → OthersKept old k new →
      RefusesAs old k bytes fault new
  SeatEnded : (of : ServerFault) → fault ≡ Session of → (was now : ShareSeat) →
      seat_in old k ≡ Some was → seat_in new k ≡ Some now → Ends bytes of was now →
      KeepsScreen old new → OthersKept old k new → RefusesAs old k bytes fault new

-- ---- bytes that wait, and updates

-- the first `count` that wait at the seat are written, or all
pub record WritesAs (old : Share) (k count : ℕ) (new : Share) : Type 0 where
  pub seat : OnSlot (λ a b. WritesAt count a b) (seat_in old k) (seat_in new k)
  pub keeps : KeepsScreen old new
  pub others : OthersKept old k new

-- an update of the screen was composed for the seat, or not
pub record ComposesAs (old : Share) (k : ℕ) (told : Composing) (new : Share) : Type 0 where
  pub seat : ComposesIn (screen_of old) told (seat_in old k) (seat_in new k)
  pub keeps : KeepsScreen old new
  pub others : OthersKept old k new

-- there was no memory for it
pub record WantsRoomAs (old : Share) (k : ℕ) (new : Share) : Type 0 where
  pub seat : WantsRoomIn (screen_of old) (seat_in old k) (seat_in new k)
  pub keeps : KeepsScreen old new
  pub others : OthersKept old k new

-- ---- work

-- a composing that finds nothing to do: no update is due, or there is no viewer
abbrev pub IsIdle : Composing → Type 0
IsIdle NotDue = Unit {0}
IsIdle NoneSeated = Unit {0}
IsIdle told = ⊥

-- a seat has no work: nothing waits there, and composing would find nothing to do
pub record HasNoWork (share : Share) (k : ℕ) : Type 0 where
  pub written : waits_at share k ≡ []
  pub idle : (told : Composing) (new : Share) → ComposesAs share k told new → IsIdle told
  pub spared : (new : Share) → WantsRoomAs share k new → ⊥
