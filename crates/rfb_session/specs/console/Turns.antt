-- What time does at a desk, what is shown and drawn there, and what is written of what waits.
use Rattle.std.specs.Prelude.{◌≡◌, ◌≢◌, ◌<◌, ◌≤◌, ◌+◌, ◌-◌, ℕ, Bool, true, false}
use Rattle.std.specs.Prelude.{◌&&◌, ◌||◌, not, nat_eq, nat_lt, cond}
use Rattle.std.specs.Prelude.{List, [], ◌∷◌, ◌++◌, drop, Option, Some, None}
use Rattle.rfb_picture.specs.Grid.{uniform}
use Rattle.rfb_picture.specs.Places.{has_bit}
use Rattle.rfb_server.specs.Strokes.{Stroke}
use Rattle.rfb_server.specs.Server.{black}
use Rattle.rfb_session.specs.declared.console.desk.Desk.{Desk}
use Rattle.rfb_session.specs.declared.console.desk.Hold.{Hold}
use Rattle.rfb_session.specs.declared.console.desk.Hold.TheVariants.{Shown, Begins, Since}
use Rattle.rfb_session.specs.declared.console.guest.Guest.{Guest}
use Rattle.rfb_session.specs.declared.console.plan.Rules.{Rules}
use Rattle.rfb_session.specs.declared.language.screen.Screen.{Screen as Size}
use Rattle.rfb_session.specs.declared.share.seat.ShareSeat.{ShareSeat}
use Rattle.rfb_session.specs.Rounds.{seats_before, first_after, is_left}
use Rattle.rfb_session.specs.Share.{canvas_of, seat_in, screen_of, waits_at, waiting_for, IsEmptyShare}
use Rattle.rfb_session.specs.ShareSteps.{KeepsScreen, WritesAs}
use Rattle.rfb_session.specs.owner.OwnerStroke.{DrawsOne}
use Rattle.rfb_session.specs.console.SeatLines.{leave_lines}
use Rattle.rfb_session.specs.console.Desk.{nobody, guest_at, lines_of, is_over, is_failing, KeepsRules, OtherGuests}
use Rattle.rfb_session.specs.console.Time.{stamped, is_slow, is_stuck, waits_for, IsBy, IsByEnd, IsByLimit}
use Rattle.rfb_session.specs.console.Updates.{KeepsBeside, ComposesAll, OrPutOff, ServesUnless}
use Rattle.rfb_session.specs.console.Updates.{IsLarge, IsBusy, EndsLarge, OnlyLarge}

-- ---- time

-- when the latest large update was composed
abbrev pub large_after : ℕ → Option ℕ → Option ℕ → Option ℕ
large_after now None large = large
large_after now (Some last) large = Some now

-- the next turn begins with the seat after the last that was served
pub record GoesRound (old : Desk) (now : ℕ) (last : Option ℕ) (new : Desk) : Type 0 where
  pub first : new.first ≡ first_after old.first last
  pub large : new.large ≡ large_after now last old.large
  pub made : new.rules ≡ old.rules
  pub hold : new.hold ≡ old.hold
  pub share : new.share ≡ old.share
  pub guests : (k : ℕ) → guest_at new k ≡ guest_at old k
  pub lines : lines_of new ≡ lines_of old

-- a viewer that has failed goes with the last byte that waited for it
abbrev pub is_done : Desk → ℕ → Bool
is_done desk k = is_failing (guest_at desk k).progress && not (waits_for (waits_at desk.share k))

-- who sits at a seat after that, and what is known of them
abbrev pub seat_kept : Desk → ℕ → Option ShareSeat
seat_kept desk k = cond (is_done desk k) None (seat_in desk.share k)

abbrev pub guest_kept : Desk → ℕ → Guest
guest_kept desk k = cond (is_done desk k) nobody (guest_at desk k)

pub record ReleasesOne (old : Desk) (k : ℕ) (new : Desk) : Type 0 where
  pub seat : seat_in new.share k ≡ seat_kept old k
  pub seats : (j : ℕ) → nat_eq j k ≡ false → seat_in new.share j ≡ seat_in old.share j
  pub screen : KeepsScreen old.share new.share
  pub guest : guest_at new k ≡ guest_kept old k
  pub others : OtherGuests old k new
  pub lines : lines_of new ≡ lines_of old
  pub rules : KeepsRules old new

pub record ReleasesUpTo (count : ℕ) (old new : Desk) : Type 0 where
  pub seats : (k : ℕ) → k < count → seat_in new.share k ≡ seat_kept old k
  pub seats_later : (k : ℕ) → count ≤ k → seat_in new.share k ≡ seat_in old.share k
  pub screen : KeepsScreen old.share new.share
  pub guests : (k : ℕ) → k < count → guest_at new k ≡ guest_kept old k
  pub guests_later : (k : ℕ) → count ≤ k → guest_at new k ≡ guest_at old k
  pub lines : lines_of new ≡ lines_of old
  pub rules : KeepsRules old new

abbrev pub ReleasesAll : Desk → Desk → Type 0
ReleasesAll old new = ReleasesUpTo 8 old new

-- what began since the last turn began now
pub record StampsOne (old : Desk) (k now : ℕ) (new : Desk) : Type 0 where
  pub share : new.share ≡ old.share
  pub guest : guest_at new k ≡ stamped now (waits_for (waits_at old.share k)) (guest_at old k)
  pub others : OtherGuests old k new
  pub lines : lines_of new ≡ lines_of old
  pub rules : KeepsRules old new

pub record StampsUpTo (count : ℕ) (old : Desk) (now : ℕ) (new : Desk) : Type 0 where
  pub share : new.share ≡ old.share
  pub guests : (k : ℕ) → k < count →
      guest_at new k ≡ stamped now (waits_for (waits_at old.share k)) (guest_at old k)
  pub later : (k : ℕ) → count ≤ k → guest_at new k ≡ guest_at old k
  pub lines : lines_of new ≡ lines_of old
  pub rules : KeepsRules old new

abbrev pub StampsAll : Desk → ℕ → Desk → Type 0
StampsAll old now new = StampsUpTo 8 old now new

-- whether updates are held back at this time, and the hold after it: one that lasts too long ends
abbrev pub holds_at : ℕ → ℕ → Hold → Bool
holds_at limit now Shown = false
holds_at limit now Begins = true
holds_at limit now (Since since) = nat_lt (now - since) limit

abbrev pub hold_after : ℕ → ℕ → Hold → Hold
hold_after limit now Shown = Shown
hold_after limit now Begins = Since now
hold_after limit now (Since since) = cond (nat_lt (now - since) limit) (Since since) Shown

pub record Stills (old : Desk) (now : ℕ) (held : Bool) (new : Desk) : Type 0 where
  pub held_is : held ≡ holds_at old.rules.hold now old.hold
  pub hold : new.hold ≡ hold_after old.rules.hold now old.hold
  pub lines : lines_of new ≡ lines_of old
  pub guests : (k : ℕ) → guest_at new k ≡ guest_at old k
  pub share : new.share ≡ old.share
  pub large : new.large ≡ old.large
  pub first : new.first ≡ old.first
  pub made : new.rules ≡ old.rules

-- ---- a turn

-- when the next one is wanted: no later than a viewer's time is over, or the hold, soon where memory was wanting,
-- and at once where seats are left
pub record WakesFor (rules : Rules) (guest : Guest) (next : Option ℕ) : Type 0 where
  pub slow : IsByEnd rules.handshake guest.since next
  pub stuck : IsByLimit rules.timeout guest.idle next

abbrev pub WakesAt : ℕ → Hold → Option ℕ → Type 0
WakesAt limit Shown next = Unit {0}
WakesAt limit Begins next = Unit {0}
WakesAt limit (Since since) next = IsBy (since + limit) next

abbrev pub WakesAfter : ℕ → Option ℕ → Option ℕ → Type 0
WakesAfter now None next = Unit {0}
WakesAfter now (Some last) next = IsBy now next

pub record Wakes (desk : Desk) (now : ℕ) (busy wants : Bool) (last next : Option ℕ) : Type 0 where
  pub guests : (k : ℕ) → k < 8 → WakesFor desk.rules (guest_at desk k) next
  pub hold : WakesAt desk.rules.hold desk.hold next
  pub again : wants ≡ true → IsBy (now + 100) next
  pub left : WakesAfter now last next
  pub later : busy ≡ true → IsByEnd 100 desk.large next

-- what is known of a viewer at that time, and whether its time is over
abbrev pub guest_then : Desk → ℕ → ℕ → Guest
guest_then desk now k = stamped now (waits_for (waiting_for (seat_kept desk k))) (guest_kept desk k)

abbrev pub is_late : Desk → ℕ → ℕ → Bool
is_late desk now k = is_slow desk.rules now (guest_then desk now k) || is_stuck desk.rules now (guest_then desk now k)

-- it is reported, unless its viewer was reported to have failed
abbrev pub tells_late : Desk → ℕ → ℕ → Bool
tells_late desk now k = is_late desk now k && not (is_over (guest_then desk now k).progress)

-- who is left then
abbrev pub seat_left : Desk → ℕ → ℕ → Option ShareSeat
seat_left desk now k = cond (is_late desk now k) None (seat_kept desk k)

-- a turn. Whoever failed goes once all is written, whoever's time is over is disconnected, and a line reports each. The
-- others' time goes on, and their seats are served in turn, unless updates are held back. After one for which a large
-- update is composed the others are left: the next turn, which is wanted at once, begins with them. While a large one
-- leaves, for 100 milliseconds at most, a seat may be put off
pub record TurnsAs (old : Desk) (now slow stuck : ℕ) (new : Desk) : Type 0 where
  pub slow_is : (k : ℕ) → k < 8 → has_bit slow k ≡ is_slow old.rules now (guest_then old now k)
  pub stuck_is : (k : ℕ) → k < 8 → has_bit stuck k ≡ is_stuck old.rules now (guest_then old now k)
  pub guests : (k : ℕ) → k < 8 → guest_at new k ≡ cond (is_late old now k) nobody (guest_then old now k)
  pub lines : lines_of new ≡ lines_of old ++ leave_lines (tells_late old now) 8
  pub held : Bool
  pub held_is : held ≡ holds_at old.rules.hold now old.hold
  pub hold : new.hold ≡ hold_after old.rules.hold now old.hold
  pub busy : Bool
  pub busy_is : busy ≡ true → IsBusy old.large now (seat_left old now)
  pub wants : Bool
  pub last : Option ℕ
  pub seats : (k : ℕ) → k < 8 →
      OrPutOff busy (ServesUnless (held || is_left old.first last k) (screen_of old.share) wants (seat_left old now k)
      (seat_in new.share k)) (seat_left old now k) (seat_in new.share k)
  pub ends : EndsLarge last (seat_left old now) (seat_in new.share)
  pub only : OnlyLarge last (seat_left old now) (seat_in new.share)
  pub first : new.first ≡ first_after old.first last
  pub large : new.large ≡ large_after now last old.large
  pub screen : KeepsScreen old.share new.share
  pub rules : new.rules ≡ old.rules
  pub next : Wakes new now busy wants last new.next

-- a seat is left out in a turn: a large update was composed for another, and the seat is as it was. In the next turn,
-- which is wanted at once, fewer seats come before it than in this one
pub record IsLeftOut (old : Desk) (now k : ℕ) (new : Desk) : Type 0 where
  pub other : ℕ
  pub another : (other < 8) × (other ≢ k)
  pub large : IsLarge (seat_left old now other) (seat_in new.share other)
  pub same : seat_in new.share k ≡ seat_left old now k
  pub sooner : seats_before new.first k < seats_before old.first k
  pub at_once : IsBy now new.next

-- a seat is put off in a turn: it is as it was, since another's large update leaves. The next turn is wanted no later
-- than 100 milliseconds after the latest of these was composed
pub record IsPutOff (old : Desk) (now k : ℕ) (new : Desk) : Type 0 where
  pub same : seat_in new.share k ≡ seat_left old now k
  pub busy : IsBusy old.large now (seat_left old now)
  pub soon : IsByEnd 100 new.large new.next

-- it was left out in so many turns one after the other, and the last one made this desk; whatever happened between them
-- kept the seat that is first
pub data IsLeftFor (k : ℕ) : ℕ → Desk → Type 0 where
  NotYet : (desk : Desk) → IsLeftFor k 0 desk
  Again : (times : ℕ) (before old new : Desk) (now slow stuck : ℕ) (turns : TurnsAs old now slow stuck new) →
      IsLeftFor k times before → old.first ≡ before.first → is_left old.first turns.last k ≡ true →
      IsLeftFor k (times + 1) new

-- ---- what the owner says

-- a black screen of that size, of that name, and no viewer
pub record IsFreshDesk (size : Size) (name : List ℕ) (rules : Rules) (desk : Desk) : Type 0 where
  pub empty : IsEmptyShare desk.share
  pub screen : screen_of desk.share ≡ uniform size.width size.height black
  pub canvas : canvas_of desk.share ≡ Some (screen_of desk.share)
  pub guests : (k : ℕ) → guest_at desk k ≡ nobody
  pub lines : lines_of desk ≡ []
  pub rules_are : desk.rules ≡ rules
  pub hold : desk.hold ≡ Shown
  pub first : desk.first ≡ 0
  pub large : desk.large ≡ None

-- a drawing is done, or leaves the screen and nothing is
pub record DrawsAs (old : Desk) (stroke : Stroke) (done : Bool) (new : Desk) : Type 0 where
  pub drawn : DrawsOne old.share stroke new.share done
  pub beside : KeepsBeside old new

pub record HoldsAs (old : Desk) (hold : Hold) (new : Desk) : Type 0 where
  pub hold_is : new.hold ≡ hold
  pub made : new.rules ≡ old.rules
  pub first : new.first ≡ old.first
  pub large : new.large ≡ old.large
  pub share : new.share ≡ old.share
  pub guests : (k : ℕ) → guest_at new k ≡ guest_at old k
  pub lines : lines_of new ≡ lines_of old

-- what was held back is shown: updates are composed
pub record ShowsAs (old new : Desk) : Type 0 where
  pub mid : Desk
  pub holds : HoldsAs old Shown mid
  pub wants : Bool
  pub composes : ComposesAll mid wants new

-- ---- bytes that are written

-- no line waits that reports a viewer
abbrev pub untold : Guest → Guest
untold guest = record guest { told = 0 }

pub record ForgetsTold (old : Desk) (k : ℕ) (new : Desk) : Type 0 where
  pub share : new.share ≡ old.share
  pub lines : lines_of new ≡ lines_of old
  pub guest : guest_at new k ≡ untold (guest_at old k)
  pub others : OtherGuests old k new
  pub rules : KeepsRules old new

-- the same of the first `places` seats, where so many bytes of the lines are gone
pub record ForgetsUpTo (places count : ℕ) (old new : Desk) : Type 0 where
  pub share : new.share ≡ old.share
  pub lines : lines_of new ≡ drop count (lines_of old)
  pub guests : (k : ℕ) → k < places → guest_at new k ≡ untold (guest_at old k)
  pub later : (k : ℕ) → places ≤ k → guest_at new k ≡ guest_at old k
  pub rules : KeepsRules old new

-- what is known of a viewer once these lines wait
abbrev pub told_of : List ℕ → Guest → Guest
told_of [] guest = untold guest
told_of (byte ∷ bytes) guest = guest

-- the first `count` bytes of the lines are gone, and with the last of them what was counted of each viewer
pub record WritesLines (old : Desk) (count : ℕ) (new : Desk) : Type 0 where
  pub share : new.share ≡ old.share
  pub lines : lines_of new ≡ drop count (lines_of old)
  pub guests : (k : ℕ) → k < 8 → guest_at new k ≡ told_of (lines_of new) (guest_at old k)
  pub rules : KeepsRules old new

-- the first `count` that wait at a seat are gone, and its time begins anew
pub record WritesSeat (old : Desk) (k count : ℕ) (new : Desk) : Type 0 where
  pub share : WritesAs old.share k count new.share
  pub waits : waits_at new.share k ≡ drop count (waits_at old.share k)
  pub guest : guest_at new k ≡ record (guest_at old k) { idle = None }
  pub others : OtherGuests old k new
  pub lines : lines_of new ≡ lines_of old
  pub rules : KeepsRules old new
