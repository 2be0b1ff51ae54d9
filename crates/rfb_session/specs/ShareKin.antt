-- Which seats of a share know the same of their viewers' pictures: kin have one number, and an update for
-- one of them was given to the others.
use Rattle.std.specs.Prelude.{◌≡◌, ◌≢◌, ◌⊎◌, ℕ, ◌<◌, ◌||◌, Bool, false, nat_eq}
use Rattle.std.specs.Prelude.{List, Option, Some, None}
use Rattle.std.specs.Prelude.{slice_index_or, option_map}
use Rattle.std.specs.Option.{ForSome}
use Rattle.rfb_pixel.specs.declared.colour.Colour.{Colour}
use Rattle.rfb_picture.specs.Grid.{Grid, at_or}
use Rattle.rfb_picture.specs.Places.{has_bit}
use Rattle.rfb_server.specs.KnownScreen.{Follows}
use Rattle.rfb_server.specs.Model.{notes_in}
use Rattle.rfb_session.specs.declared.share.kin.Kin.{Kin}
use Rattle.rfb_session.specs.declared.share.seat.ShareSeat.{ShareSeat}
use Rattle.rfb_session.specs.ShareSeats.{session_at}
use Rattle.rfb_session.specs.Slots.{seat_at}

-- the number of a seat
abbrev pub number_at : Kin → ℕ → ℕ
number_at kin k = slice_index_or kin.numbers k 0

-- two seats have one number, which is not zero
pub record AreKin (kin : Kin) (j k : ℕ) : Type 0 where
  pub some : 0 < number_at kin j
  pub same : number_at kin k ≡ number_at kin j

-- a seat has no kin any more; the others have what they had
abbrev pub Leaves : ℕ → Kin → Kin → Type 0
Leaves place old new = (j k : ℕ) → AreKin new j k →
    AreKin old j k × (nat_eq j place ≡ false) × (nat_eq k place ≡ false)

-- a seat is one of those that are kin from now on
abbrev pub is_met : ℕ → ℕ → ℕ → Bool
is_met own others k = nat_eq k own || has_bit others k

-- what the session of a seat knows of its viewer's picture
abbrev pub known_at : ShareSeat → Grid (Option ℕ)
known_at seat = (notes_in (session_at seat)).known

abbrev pub known_in : Option ShareSeat → Option (Grid (Option ℕ))
known_in slot = option_map known_at slot

-- something is known of the first place
abbrev pub KnowsFirst : Option ShareSeat → Type 0
KnowsFirst slot = ForSome slot (λ seat. at_or (known_at seat) 0 0 None ≢ None)

-- seats that are kin know the same
abbrev pub KnowAlike : Kin → List (Option ShareSeat) → Type 0
KnowAlike kin seats = (j k : ℕ) (one other : ShareSeat) → AreKin kin j k →
    seat_at j seats ≡ Some one → seat_at k seats ≡ Some other → known_at other ≡ known_at one

-- whoever sits in the slot knows what one does, wherever both follow one screen
pub record KnowsAs (one : ShareSeat) (slot : Option ShareSeat) : Type 0 where
  pub other : ShareSeat
  pub is_other : slot ≡ Some other
  pub knows : (screen : Grid Colour) → Follows screen (session_at one) →
      Follows screen (session_at other) → known_at other ≡ known_at one

-- so it is of seat `k` and seat `own`
pub record KnowAs (slots : List (Option ShareSeat)) (own k : ℕ) : Type 0 where
  pub one : ShareSeat
  pub is_one : seat_at own slots ≡ Some one
  pub knows : KnowsAs one (seat_at k slots)

-- whoever sits in the slot sat there before, and knows what it knew
abbrev pub StillKnows : Option ShareSeat → Option ShareSeat → Type 0
StillKnows old new = (seat : ShareSeat) → new ≡ Some seat →
    (was : ShareSeat) × (old ≡ Some was) × (known_at seat ≡ known_at was)

-- the same are kin, and whoever sits there knows what it knew; or it has left its kin
abbrev pub StaysOrLeaves : ℕ → Kin → Kin → Option ShareSeat → Option ShareSeat → Type 0
StaysOrLeaves place old new was now = ((new ≡ old) × StillKnows was now) ⊎ Leaves place old new
