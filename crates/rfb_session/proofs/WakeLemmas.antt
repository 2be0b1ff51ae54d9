-- A sooner time to wake is one for all that a later one is; nothing is slept past; what is due is composed.
use Rattle.std.proofs.Common.{◌≡◌, ◌<◌, ◌≤◌, ◌+◌, ◌-◌, ◌∙◌, ◌||◌, ℕ, suc, Bool, true, false, cond, List, [], nat_le}
use Rattle.std.proofs.Common.{nat_lt, length}
use Rattle.std.proofs.Common.{Option, Some, None, refl, sym, ap, subst, arith, inl, inr}
use Rattle.std.proofs.Common.{get_or}
use Rattle.std.specs.Prelude.{slice_index_or}
use Rattle.std.proofs.lemmas.Bool.{false≢true}
use Rattle.std.proofs.lemmas.Bool.Decides.{leb_tells}
use Rattle.std.proofs.lemmas.List.{get_or_default}
use Rattle.rfb_server.specs.Model.{session_fault}
use Rattle.rfb_server.specs.UpdateCall.{OwesUpdate}
use Rattle.rfb_session.specs.declared.console.desk.Desk.{Desk}
use Rattle.rfb_session.specs.declared.console.desk.Hold.{Hold}
use Rattle.rfb_session.specs.declared.console.desk.Hold.TheVariants.{Shown, Begins, Since}
use Rattle.rfb_session.specs.declared.console.guest.Guest.{Guest}
use Rattle.rfb_session.specs.declared.console.plan.Rules.{Rules}
use Rattle.rfb_session.specs.declared.share.event.Composing.{Composing}
use Rattle.rfb_session.specs.declared.share.event.Composing.TheVariants.{Composed, NotDue, Waiting, NoSuchSeat}
use Rattle.rfb_session.specs.declared.share.seat.ShareSeat.{ShareSeat}
use Rattle.rfb_session.specs.Rounds.{is_left}
use Rattle.rfb_session.specs.Share.{seat_in, screen_of}
use Rattle.rfb_session.specs.ShareSeats.{Sends, ComposesAt, session_at, waiting_in}
use Rattle.rfb_session.specs.ShareWork.{RestsIn}
use Rattle.rfb_session.specs.console.Desk.{nobody, guest_at}
use Rattle.rfb_session.specs.console.Time.{IsBy, IsByEnd, IsByLimit, IsBefore, has_lasted, lasts, is_slow, is_stuck}
use Rattle.rfb_session.specs.console.Turns.{WakesFor, WakesAt, WakesAfter, TurnsAs, is_late, guest_then, seat_left}
use Rattle.rfb_session.specs.console.Updates.{Serves, Rested, Tried, Wanted, ServesUnless}
use Rattle.rfb_session.specs.console.Turns.{holds_at, hold_after}
use Rattle.rfb_session.proofs.ShareLawLemmas.{composes_at}
use Rattle.rfb_session.proofs.ShareWorkLemmas.{not_owed}

module _ (one next : Option ℕ) (sooner : (limit : ℕ) → IsBy limit one → IsBy limit next) where
  pub end_sooner : (limit : ℕ) (since : Option ℕ) → IsByEnd limit since one → IsByEnd limit since next
  end_sooner limit None by = tt
  end_sooner limit (Some since) by = sooner (since + limit) by

  pub limit_sooner : (limit since : Option ℕ) → IsByLimit limit since one → IsByLimit limit since next
  limit_sooner None since by = tt
  limit_sooner (Some limit) since by = end_sooner limit since by

  pub wakes_sooner : (rules : Rules) (guest : Guest) → WakesFor rules guest one → WakesFor rules guest next
  wakes_sooner rules guest wakes = record {
    slow = end_sooner rules.handshake guest.since wakes.slow;
    stuck = limit_sooner rules.timeout guest.idle wakes.stuck;
  }

  pub hold_sooner : (limit : ℕ) (hold : Hold) → WakesAt limit hold one → WakesAt limit hold next
  hold_sooner limit Shown wakes = tt
  hold_sooner limit Begins wakes = tt
  hold_sooner limit (Since since) wakes = sooner (since + limit) wakes

  pub left_sooner : (now : ℕ) (last : Option ℕ) → WakesAfter now last one → WakesAfter now last next
  left_sooner now None wakes = tt
  left_sooner now (Some last) wakes = sooner now wakes

-- a guest that is read is the guest of its seat
pub wakes_read : (rules : Rules) (guests : List Guest) (k : ℕ) (d : Guest) (next : Option ℕ) → k < length guests →
    WakesFor rules (get_or guests k d) next → WakesFor rules (slice_index_or guests k nobody) next
wakes_read rules guests k d next within wakes =
    subst (λ (g : Guest). WakesFor rules g next) (get_or_default guests k d nobody within) wakes

-- ---- before that time

le_false : (a b : ℕ) → b < a → nat_le a b ≡ false
le_false a b less = elim (leb_tells a b) [
  | inl low ↦ absurd (omega (arith, less, low.1))
  | inr high ↦ high.0
]

less_of : (a b : ℕ) → nat_le a b ≡ false → b < a
less_of a b is = elim (leb_tells a b) [
  | inl low ↦ cc
  | inr high ↦ omega (arith, high.1)
]

lt_true : (a b : ℕ) → a < b → nat_lt a b ≡ true
lt_true a b less = elim (leb_tells (suc a) b) [
  | inl low ↦ low.0
  | inr high ↦ absurd (omega (arith, less, high.1))
]

lt_of : (a b : ℕ) → nat_lt a b ≡ true → a < b
lt_of a b is = elim (leb_tells (suc a) b) [
  | inl low ↦ omega (arith, low.1)
  | inr high ↦ cc
]

none_stuck : (limit : Option ℕ) (now : ℕ) → lasts limit now None ≡ false
none_stuck None now = refl
none_stuck (Some limit) now = refl

-- what does not last that long now does not before something is wanted for its end
pub lasts_not : (limit now time : ℕ) (since next : Option ℕ) → IsByEnd limit since next → IsBefore time next →
    has_lasted limit now since ≡ false → has_lasted limit time since ≡ false
lasts_not limit now time None next by before is = is
lasts_not limit now time (Some since) None by before is = absurd by
lasts_not limit now time (Some since) (Some next) by before is =
    le_false limit (time - since) (omega (arith, by, before, less_of limit (now - since) is))

pub lasts_no_limit : (limit : Option ℕ) (now time : ℕ) (since next : Option ℕ) → IsByLimit limit since next →
    IsBefore time next → lasts limit now since ≡ false → lasts limit time since ≡ false
lasts_no_limit None now time since next by before is = is
lasts_no_limit (Some limit) now time since next by before is = lasts_not limit now time since next by before is

-- ---- after a turn

not_either : (a b : Bool) → (a || b) ≡ false → (a ≡ false) × (b ≡ false)
not_either true b is = absurd (false≢true (sym is))
not_either false b is = (refl, is)

module _ (old : Desk) (now slow stuck : ℕ) (new : Desk) (turns : TurnsAs old now slow stuck new) (k : ℕ)
    (within : k < 8) where
  guest_not : (late : Bool) → is_late old now k ≡ late →
      (is_slow new.rules now (guest_at new k) ≡ false) × (is_stuck new.rules now (guest_at new k) ≡ false)
  guest_not true is =
      let gone : guest_at new k ≡ nobody =
      turns.guests k within ∙ ap (λ (b : Bool). cond b nobody (guest_then old now k)) is in (
        ap (λ (g : Guest). is_slow new.rules now g) gone,
        ap (λ (g : Guest). is_stuck new.rules now g) gone ∙ none_stuck new.rules.timeout now,
      )
  guest_not false is =
      let stays : guest_at new k ≡ guest_then old now k =
      turns.guests k within ∙ ap (λ (b : Bool). cond b nobody (guest_then old now k)) is in
      let two = not_either _ _ is in (
        ap (λ (g : Guest). is_slow new.rules now g) stays
            ∙ ap (λ (r : Rules). is_slow r now (guest_then old now k)) turns.rules ∙ two.0,
        ap (λ (g : Guest). is_stuck new.rules now g) stays
            ∙ ap (λ (r : Rules). is_stuck r now (guest_then old now k)) turns.rules ∙ two.1,
      )

  -- nobody's time is over before the next turn is wanted
  pub sleeps : (time : ℕ) → IsBefore time new.next →
      (is_slow new.rules time (guest_at new k) ≡ false) × (is_stuck new.rules time (guest_at new k) ≡ false)
  sleeps time before =
      let now_not = guest_not (is_late old now k) refl in
      let wakes = turns.next.guests k within in (
        lasts_not new.rules.handshake now time (guest_at new k).since new.next wakes.slow before now_not.0,
        lasts_no_limit new.rules.timeout now time (guest_at new k).idle new.next wakes.stuck before now_not.1,
      )

-- nor does the hold end
held_on : (limit now time : ℕ) (hold : Hold) (next : Option ℕ) → holds_at limit now hold ≡ true → now ≤ time →
    WakesAt limit (hold_after limit now hold) next → IsBefore time next →
    holds_at limit time (hold_after limit now hold) ≡ true
held_on limit now time Shown next held later wakes before = absurd (false≢true held)
held_on limit now time Begins None held later wakes before = absurd wakes
held_on limit now time Begins (Some next) held later wakes before =
    lt_true (time - now) limit (omega (arith, later, wakes, before))
held_on limit now time (Since since) next held later wakes before = by next wakes before
  where
    lasting : hold_after limit now (Since since) ≡ Since since
    lasting = ap (λ (b : Bool). cond b (Since since) Shown) held

    by : (o : Option ℕ) → WakesAt limit (hold_after limit now (Since since)) o → IsBefore time o →
        holds_at limit time (hold_after limit now (Since since)) ≡ true
    by None wakes before =
        absurd (subst (λ (h : Hold). WakesAt limit h None) lasting wakes)
    by (Some next) wakes before =
        let by_then : next ≤ since + limit = subst (λ (h : Hold). WakesAt limit h (Some next)) lasting wakes in
        ap (λ (h : Hold). holds_at limit time h) lasting
        ∙ lt_true (time - since) limit (omega (arith, by_then, before, lt_of (now - since) limit held))

pub holds_on : (old : Desk) (now slow stuck : ℕ) (new : Desk) (turns : TurnsAs old now slow stuck new) →
    turns.held ≡ true → (time : ℕ) → now ≤ time → IsBefore time new.next →
    holds_at new.rules.hold time new.hold ≡ true
holds_on old now slow stuck new turns held time later before =
    let wakes = subst (λ (h : Hold). WakesAt new.rules.hold h new.next) turns.hold turns.next.hold in
    let limit : new.rules.hold ≡ old.rules.hold = ap (λ (r : Rules). r.hold) turns.rules in
    ap (λ (h : Hold). holds_at new.rules.hold time h) turns.hold
    ∙ ap (λ (n : ℕ). holds_at n time (hold_after old.rules.hold now old.hold)) limit
    ∙ held_on old.rules.hold now time old.hold new.next (sym turns.held_is ∙ held) later
    (subst (λ (n : ℕ). WakesAt n (hold_after old.rules.hold now old.hold) new.next) limit wakes) before

-- ---- updates that are due

pub due_sent : (old : Desk) (now slow stuck : ℕ) (new : Desk) (turns : TurnsAs old now slow stuck new) (k : ℕ)
    (seat : ShareSeat) → turns.held ≡ false → turns.wants ≡ false → is_left old.first turns.last k ≡ false →
    ServesUnless (turns.held || is_left old.first turns.last k) (screen_of old.share) turns.wants
    (seat_left old now k) (seat_in new.share k) → seat_left old now k ≡ Some seat →
    session_fault (session_at seat) ≡ None → waiting_in seat ≡ [] →
    OwesUpdate (screen_of old.share) (session_at seat) →
    (sent : ShareSeat) × (seat_in new.share k ≡ Some sent) × Sends (screen_of old.share) seat sent
due_sent old now slow stuck new turns k seat shown enough reached serves left going written due =
    by (subst (λ (h : Bool). ServesUnless h (screen_of old.share) turns.wants (seat_left old now k)
    (seat_in new.share k)) (ap (λ (h : Bool). h || is_left old.first turns.last k) shown ∙ reached) serves)
  where
    composed : (told : Composing) (sent : ShareSeat) → ComposesAt (screen_of old.share) told seat sent →
        Sends (screen_of old.share) seat sent
    composed Composed sent sends = sends
    composed NotDue sent none = absurd (not_owed (screen_of old.share) seat going none.none.not_due due)
    composed Waiting sent waits = absurd (waits.some written)
    composed NoSuchSeat sent none = absurd none

    by : Serves (screen_of old.share) turns.wants (seat_left old now k) (seat_in new.share k) →
        (sent : ShareSeat) × (seat_in new.share k ≡ Some sent) × Sends (screen_of old.share) seat sent
    by (Rested rests same) =
        absurd (not_owed (screen_of old.share) seat going
        (subst (λ (o : Option ShareSeat). RestsIn (screen_of old.share) o) left rests).none due)
    by (Tried told composes) =
        let one = composes_at (screen_of old.share) told (seat_left old now k) (seat_in new.share k) seat composes
        left in (one.0, one.1, composed told one.0 one.2)
    by (Wanted wants wanted) = absurd (false≢true (sym enough ∙ wants))
