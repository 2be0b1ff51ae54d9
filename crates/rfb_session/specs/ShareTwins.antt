-- Seats of a share that are twins: an update that is composed for the one is given to the other.
use Rattle.std.specs.Prelude.{◌≡◌, ℕ, ◌≤◌, true, false, nat_eq, List, [], Option, Some, None}
use Rattle.std.specs.Option.{ForSome}
use Rattle.rfb_pixel.specs.declared.colour.Colour.{Colour}
use Rattle.rfb_picture.specs.Grid.{Grid}
use Rattle.rfb_picture.specs.Places.{has_bit}
use Rattle.rfb_server.specs.KnownScreen.{Follows}
use Rattle.rfb_server.specs.Twins.{AreTwins}
use Rattle.rfb_session.specs.declared.share.Share.{Share}
use Rattle.rfb_session.specs.declared.share.event.Composing.{Composing}
use Rattle.rfb_session.specs.declared.share.event.Composing.TheVariants.{Composed}
use Rattle.rfb_session.specs.declared.share.seat.ShareSeat.{ShareSeat}
use Rattle.rfb_session.specs.Share.{seat_in, screen_of, waiting_for}
use Rattle.rfb_session.specs.ShareSeats.{session_at, waiting_in, is_update, memory_at, Sends}
use Rattle.rfb_session.specs.ShareKin.{known_in}
use Rattle.rfb_session.specs.ShareSlots.{ComposesIn}
use Rattle.rfb_session.specs.ShareSteps.{KeepsScreen}
use Rattle.rfb_session.specs.Slots.{seat_at}

-- nothing waits at either seat, and their sessions are twins
pub record AreSeatTwins (one other : ShareSeat) : Type 0 where
  pub written : waiting_in one ≡ []
  pub written_too : waiting_in other ≡ []
  pub sessions : AreTwins (session_at one) (session_at other)

-- an update was composed for a twin of the seat, which is this one since
pub record HasComposedTwin (screen : Grid Colour) (seat sent : ShareSeat) : Type 0 where
  pub was : ShareSeat
  pub twins : AreSeatTwins was seat
  pub sends : Sends screen was sent

-- somebody sits in the slot who is a twin of one wherever both follow the screen
pub record IsTwinOf (one : ShareSeat) (slot : Option ShareSeat) : Type 0 where
  pub other : ShareSeat
  pub is_other : slot ≡ Some other
  pub twins : (screen : Grid Colour) → Follows screen (session_at one) →
      Follows screen (session_at other) → AreSeatTwins one other

-- seat `k` is another than seat `own`, and its twin
pub record IsTwinIn (slots : List (Option ShareSeat)) (own k : ℕ) : Type 0 where
  pub one : ShareSeat
  pub is_one : seat_at own slots ≡ Some one
  pub apart : nat_eq k own ≡ false
  pub twin : IsTwinOf one (seat_at k slots)

-- whoever sits in the slot is to be given what was sent to a twin
pub record IsHeirOf (screen : Grid Colour) (sent : ShareSeat) (slot : Option ShareSeat) : Type 0 where
  pub seat : ShareSeat
  pub is_seat : slot ≡ Some seat
  pub follows : Follows screen (session_at seat)
  pub twin : HasComposedTwin screen seat sent

-- so they are, of somebody in another slot
pub record IsHeirIn (screen : Grid Colour) (one slot : Option ShareSeat) : Type 0 where
  pub sent : ShareSeat
  pub is_sent : one ≡ Some sent
  pub heir : IsHeirOf screen sent slot

-- whoever sits at seat `k`, which is another than seat `own`, is to be given what was sent there
pub record IsToBeGiven (screen : Grid Colour) (slots : List (Option ShareSeat)) (own k : ℕ) : Type 0 where
  pub apart : nat_eq k own ≡ false
  pub heir : IsHeirIn screen (seat_at own slots) (seat_at k slots)

-- what waits at a seat may be taken over by others, in the same memory; nothing else has changed
pub record IsShared (old new : ShareSeat) : Type 0 where
  pub waits : waiting_in new ≡ waiting_in old
  pub update : is_update new ≡ is_update old
  pub memory : memory_at new ≤ memory_at old
  pub session : session_at new ≡ session_at old

-- of whoever sits in the slot
abbrev pub IsSharedIn : Option ShareSeat → Option ShareSeat → Type 0
IsSharedIn None new = new ≡ None
IsSharedIn (Some old) None = ⊥
IsSharedIn (Some old) (Some new) = IsShared old new

-- a seat was given the update that waits at another one, and knows what that one knows
pub record IsGiven (screen : Grid Colour) (one old new : Option ShareSeat) : Type 0 where
  pub sent : ComposesIn screen Composed old new
  pub same : waiting_for new ≡ waiting_for one
  pub known : known_in new ≡ known_in one

-- seat `k` was given the update that waits at seat `own`, and follows the screen
pub record IsGivenFrom (screen : Grid Colour) (own k : ℕ) (old new : List (Option ShareSeat)) : Type 0 where
  pub given : IsGiven screen (seat_at own old) (seat_at k old) (seat_at k new)
  pub follows : ForSome (seat_at k new) (λ seat. Follows screen (session_at seat))

-- seats of the set, which seat `own` is not in, were given what waits there; all others are as they were
pub record IsGivenTo (screen : Grid Colour) (own : ℕ) (old new : List (Option ShareSeat)) (given : ℕ)
    : Type 0 where
  pub own_shared : IsSharedIn (seat_at own old) (seat_at own new)
  pub apart : has_bit given own ≡ false
  pub given_to : (k : ℕ) → has_bit given k ≡ true →
      IsGiven screen (seat_at own new) (seat_at k old) (seat_at k new)
  pub others : (k : ℕ) → nat_eq k own ≡ false → has_bit given k ≡ false →
      seat_at k new ≡ seat_at k old
  pub follows : (k : ℕ) → has_bit given k ≡ true →
      ForSome (seat_at k new) (λ seat. Follows screen (session_at seat))

-- an update was composed for a seat, where nothing waited, or not, and some were given it of the others
-- that may be
pub record ComposesShared (old : Share) (k : ℕ) (told : Composing) (others given : ℕ) (new : Share)
    : Type 0 where
  pub seat : ComposesIn (screen_of old) told (seat_in old k) (seat_in new k)
  pub own : has_bit given k ≡ false
  pub within : (j : ℕ) → has_bit given j ≡ true → has_bit others j ≡ true
  pub written : (j : ℕ) → has_bit given j ≡ true → waiting_for (seat_in old k) ≡ []
  pub given_to : (j : ℕ) → has_bit given j ≡ true →
      IsGiven (screen_of old) (seat_in new k) (seat_in old j) (seat_in new j)
  pub rest : (j : ℕ) → nat_eq j k ≡ false → has_bit given j ≡ false →
      seat_in new j ≡ seat_in old j
  pub keeps : KeepsScreen old new
