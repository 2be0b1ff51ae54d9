-- Updates that are composed at a desk: for one seat, for all eight, and going round up to a large one.
use Rattle.std.specs.Prelude.{◌≡◌, ◌<◌, ◌≤◌, ◌+◌, ◌⊎◌, ℕ, Bool, true, false}
use Rattle.std.specs.Prelude.{nat_eq, [], length, Option, Some, None}
use Rattle.rfb_pixel.specs.declared.colour.Colour.{Colour}
use Rattle.rfb_picture.specs.Grid.{Grid}
use Rattle.rfb_picture.specs.Places.{has_bit}
use Rattle.rfb_session.specs.declared.console.desk.Desk.{Desk}
use Rattle.rfb_session.specs.declared.share.event.Composing.{Composing}
use Rattle.rfb_session.specs.declared.share.event.Composing.TheVariants.{Composed}
use Rattle.rfb_session.specs.declared.share.seat.ShareSeat.{ShareSeat}
use Rattle.rfb_session.specs.Rounds.{seats_before, is_left}
use Rattle.rfb_session.specs.Share.{seat_in, screen_of, waiting_for}
use Rattle.rfb_session.specs.ShareSlots.{ComposesIn, WantsRoomIn}
use Rattle.rfb_session.specs.ShareSteps.{KeepsScreen}
use Rattle.rfb_session.specs.ShareTwins.{IsGiven}
use Rattle.rfb_session.specs.ShareWork.{RestsIn}
use Rattle.rfb_session.specs.console.Desk.{guest_at, lines_of, KeepsRules}

-- all but the share is as it was
pub record KeepsBeside (old new : Desk) : Type 0 where
  pub guests : (k : ℕ) → guest_at new k ≡ guest_at old k
  pub lines : lines_of new ≡ lines_of old
  pub rules : KeepsRules old new

-- a seat where an update was tried: it was composed, or found not due, or bytes wait there, or nobody is there;
-- or memory for it was wanting. Where none was tried it is as it was
abbrev pub TriesOne : Grid Colour → Bool → Bool → Option ShareSeat → Option ShareSeat → Type 0
TriesOne screen false wants old new = new ≡ old
TriesOne screen true false old new = (told : Composing) × ComposesIn screen told old new
TriesOne screen true true old new = WantsRoomIn screen old new

-- what is composed for it is given to some others too, of those that may be given it
pub record ComposesOne (old : Desk) (k : ℕ) (tries wants : Bool) (among given : ℕ) (new : Desk) : Type 0 where
  pub seat : TriesOne (screen_of old.share) tries wants (seat_in old.share k) (seat_in new.share k)
  pub own : has_bit given k ≡ false
  pub within : (j : ℕ) → has_bit given j ≡ true → has_bit among j ≡ true
  pub written : (j : ℕ) → has_bit given j ≡ true → waiting_for (seat_in old.share k) ≡ []
  pub given_to : (j : ℕ) → has_bit given j ≡ true →
      IsGiven (screen_of old.share) (seat_in new.share k) (seat_in old.share j) (seat_in new.share j)
  pub seats : (j : ℕ) → nat_eq j k ≡ false → has_bit given j ≡ false →
      seat_in new.share j ≡ seat_in old.share j
  pub screen : KeepsScreen old.share new.share
  pub beside : KeepsBeside old new

-- a seat is served: nothing waits and no update is due there, and it is as it was; or an update was tried; or memory
-- for it was wanting, and that is reported
pub data Serves (screen : Grid Colour) (wants : Bool) (old new : Option ShareSeat) : Type 0 where
  Rested : RestsIn screen old → new ≡ old → Serves screen wants old new
  Tried : (told : Composing) → ComposesIn screen told old new → Serves screen wants old new
  Wanted : wants ≡ true → WantsRoomIn screen old new → Serves screen wants old new

-- the first `count` seats are. Of the others those with work are left, or were given what was composed for one of
-- these
pub record SharesUpTo (count : ℕ) (old : Desk) (due left : ℕ) (wants : Bool) (new : Desk) : Type 0 where
  pub seats : (k : ℕ) → k < 8 → k < count →
      Serves (screen_of old.share) wants (seat_in old.share k) (seat_in new.share k)
  pub gone : (k : ℕ) → k < 8 → k < count → has_bit left k ≡ false
  pub some : (k : ℕ) → k < 8 → has_bit left k ≡ true → has_bit due k ≡ true
  pub given_to : (k : ℕ) → k < 8 → count ≤ k → has_bit due k ≡ true → has_bit left k ≡ false →
      ComposesIn (screen_of old.share) Composed (seat_in old.share k) (seat_in new.share k)
  pub later : (k : ℕ) → k < 8 → count ≤ k → (has_bit due k ≡ false) ⊎ (has_bit left k ≡ true) →
      seat_in new.share k ≡ seat_in old.share k
  pub screen : KeepsScreen old.share new.share
  pub beside : KeepsBeside old new

-- all eight are
pub record ComposesAll (old : Desk) (wants : Bool) (new : Desk) : Type 0 where
  pub seats : (k : ℕ) → k < 8 →
      Serves (screen_of old.share) wants (seat_in old.share k) (seat_in new.share k)
  pub later : (k : ℕ) → 8 ≤ k → seat_in new.share k ≡ seat_in old.share k
  pub screen : KeepsScreen old.share new.share
  pub beside : KeepsBeside old new

-- a large update was composed for a seat: nothing waited there, and now more than a mebibyte does
pub record IsLarge (old new : Option ShareSeat) : Type 0 where
  pub written : waiting_for old ≡ []
  pub large : 1048576 < length (waiting_for new)

-- a large update was composed less than 100 milliseconds ago, and of what waits at some seat more than 65,536 bytes
-- have not left
pub record IsBusy (large : Option ℕ) (now : ℕ) (seats : ℕ → Option ShareSeat) : Type 0 where
  pub since : ℕ
  pub began : large ≡ Some since
  pub fresh : now < since + 100
  pub seat : ℕ
  pub within : seat < 8
  pub waits : 65536 < length (waiting_for (seats seat))

-- where others are busy a seat may be put off: then it is as it was
abbrev pub OrPutOff : Bool → Type 0 → Option ShareSeat → Option ShareSeat → Type 0
OrPutOff false does old new = does
OrPutOff true does old new = (new ≡ old) ⊎ does

-- a seat was given an update that was composed for another, and no large one
pub record IsGivenSmall (screen : Grid Colour) (old new : Option ShareSeat) : Type 0 where
  pub sent : ComposesIn screen Composed old new
  pub small : IsLarge old new → ⊥

-- so many seats are served or put off, from the first of this turn on and going round, and for none a large update was
-- composed. Of the others those with work are left, or were given what was composed for one of these
pub record RoundUpTo (count : ℕ) (busy : Bool) (old : Desk) (due left : ℕ) (wants : Bool) (new : Desk) : Type 0
  where
    pub seats : (k : ℕ) → k < 8 → seats_before old.first k < count →
        OrPutOff busy (Serves (screen_of old.share) wants (seat_in old.share k) (seat_in new.share k))
        (seat_in old.share k) (seat_in new.share k)
    pub small : (k : ℕ) → k < 8 → seats_before old.first k < count →
        IsLarge (seat_in old.share k) (seat_in new.share k) → ⊥
    pub gone : (k : ℕ) → k < 8 → seats_before old.first k < count → has_bit left k ≡ false
    pub some : (k : ℕ) → k < 8 → has_bit left k ≡ true → has_bit due k ≡ true
    pub given_to : (k : ℕ) → k < 8 → count ≤ seats_before old.first k → has_bit due k ≡ true →
        has_bit left k ≡ false → IsGivenSmall (screen_of old.share) (seat_in old.share k) (seat_in new.share k)
    pub later : (k : ℕ) → k < 8 → count ≤ seats_before old.first k →
        (has_bit due k ≡ false) ⊎ (has_bit left k ≡ true) → seat_in new.share k ≡ seat_in old.share k
    pub screen : KeepsScreen old.share new.share
    pub beside : KeepsBeside old new

-- for the last that is served, if others are left, a large update was composed
abbrev pub EndsLarge : Option ℕ → (ℕ → Option ShareSeat) → (ℕ → Option ShareSeat) → Type 0
EndsLarge None old new = Unit {0}
EndsLarge (Some last) old new = (last < 8) × IsLarge (old last) (new last)

-- at a seat what waits is what was composed for the last that is served
abbrev pub HasOfLast : Option ℕ → (ℕ → Option ShareSeat) → ℕ → Type 0
HasOfLast None new k = ⊥
HasOfLast (Some last) new k = waiting_for (new k) ≡ waiting_for (new last)

-- no other large update was composed
abbrev pub OnlyLarge : Option ℕ → (ℕ → Option ShareSeat) → (ℕ → Option ShareSeat) → Type 0
OnlyLarge last old new = (k : ℕ) → k < 8 → IsLarge (old k) (new k) → HasOfLast last new k

-- a seat is served, or it is left: it is as it was, or was given what was composed for another
abbrev pub ServesUnless : Bool → Grid Colour → Bool → Option ShareSeat → Option ShareSeat → Type 0
ServesUnless true screen wants old new = (new ≡ old) ⊎ ComposesIn screen Composed old new
ServesUnless false screen wants old new = Serves screen wants old new

-- all are served or put off, or those up to the one for which a large update is composed, and the others are left
pub record ComposesRound (old : Desk) (busy wants : Bool) (last : Option ℕ) (new : Desk) : Type 0 where
  pub seats : (k : ℕ) → k < 8 →
      OrPutOff busy (ServesUnless (is_left old.first last k) (screen_of old.share) wants (seat_in old.share k)
      (seat_in new.share k)) (seat_in old.share k) (seat_in new.share k)
  pub ends : EndsLarge last (seat_in old.share) (seat_in new.share)
  pub only : OnlyLarge last (seat_in old.share) (seat_in new.share)
  pub screen : KeepsScreen old.share new.share
  pub beside : KeepsBeside old new
