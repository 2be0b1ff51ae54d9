-- What comes of the seats that a turn leaves: they come first in the next one.
use Rattle.std.proofs.Common.{◌≡◌, ◌⊎◌, ◌<◌, ◌≤◌, ◌+◌, ◌||◌, ℕ, Bool, true, false, []}
use Rattle.std.proofs.Common.{Option, Some, None, refl, ap, sym, ◌∙◌, subst, arith, inl, inr}
use Rattle.std.proofs.lemmas.Bool.{false≢true}
use Rattle.rfb_server.specs.Model.{session_fault}
use Rattle.rfb_server.specs.UpdateCall.{OwesUpdate}
use Rattle.rfb_session.specs.declared.console.desk.Desk.{Desk}
use Rattle.rfb_session.specs.declared.share.seat.ShareSeat.{ShareSeat}
use Rattle.rfb_session.specs.Rounds.{seats_before, first_after, is_left}
use Rattle.rfb_session.specs.Share.{seat_in, screen_of, waits_at}
use Rattle.rfb_session.specs.ShareSlots.{ComposesIn}
use Rattle.rfb_session.specs.ShareSeats.{Sends, session_at, waiting_in}
use Rattle.rfb_session.specs.console.Updates.{EndsLarge, IsLarge, ServesUnless, HasOfLast, OrPutOff}
use Rattle.rfb_session.specs.console.Turns.{TurnsAs, WakesAfter, seat_left}
use Rattle.rfb_session.specs.console.Time.{begun}
use Rattle.rfb_session.specs.console.Turns.{IsLeftOut, IsLeftFor, IsPutOff, NotYet, Again}
use Rattle.rfb_session.specs.declared.share.event.Composing.TheVariants.{Composed}
use Rattle.rfb_session.proofs.ShareLawLemmas.{composes_at}
use Rattle.rfb_session.proofs.RoundLemmas.{before_below, left_comes, served_comes, next_before, next_after}
use Rattle.rfb_session.proofs.WakeLemmas.{due_sent}

module _ (old : Desk) (now slow stuck : ℕ) (new : Desk) (turns : TurnsAs old now slow stuck new) (k : ℕ)
    (within : k < 8) where
  -- fewer come before it
  sooner_by : (o : Option ℕ) → EndsLarge o (seat_left old now) (seat_in new.share) →
      new.first ≡ first_after old.first o → is_left old.first o k ≡ true →
      seats_before new.first k < seats_before old.first k
  sooner_by None ends first left = absurd (false≢true left)
  sooner_by (Some last) ends first left =
      let comes = left_comes old.first last k left in
      let next = next_before old.first last k old.first_of_eight ends.0 within comes in
      omega (arith, next, ap (λ (n : ℕ). seats_before n k) first)

  pub left_sooner : is_left old.first turns.last k ≡ true → seats_before new.first k < seats_before old.first k
  left_sooner left = sooner_by turns.last turns.ends turns.first left

  -- it comes before whoever was served
  before_by : (j : ℕ) → j < 8 → (o : Option ℕ) → EndsLarge o (seat_left old now) (seat_in new.share) →
      new.first ≡ first_after old.first o → is_left old.first o k ≡ true → is_left old.first o j ≡ false →
      seats_before new.first k < seats_before new.first j
  before_by j low None ends first left served = absurd (false≢true left)
  before_by j low (Some last) ends first left served =
      let next = next_before old.first last k old.first_of_eight ends.0 within (left_comes old.first last k left) in
      let after = next_after old.first last j old.first_of_eight ends.0 low (served_comes old.first last j served) in
      omega (
        arith,
        next,
        after,
        ap (λ (n : ℕ). seats_before n k) first,
        ap (λ (n : ℕ). seats_before n j) first,
        before_below old.first k old.first_of_eight within,
      )

  pub left_first : (j : ℕ) → j < 8 → is_left old.first turns.last k ≡ true →
      is_left old.first turns.last j ≡ false → seats_before new.first k < seats_before new.first j
  left_first j low left served = before_by j low turns.last turns.ends turns.first left served

  -- whoever is left is left out
  left_by : (o : Option ℕ) → EndsLarge o (seat_left old now) (seat_in new.share) →
      new.first ≡ first_after old.first o → WakesAfter now o new.next → is_left old.first o k ≡ true →
      seat_in new.share k ≡ seat_left old now k → IsLeftOut old now k new
  left_by None ends first wakes left same = absurd (false≢true left)
  left_by (Some last) ends first wakes left same = record {
    other = last;
    another = (
      ends.0,
      λ (is : last ≡ k).
          omega (arith, left_comes old.first last k left, ap (λ (n : ℕ). seats_before old.first n) is),
    );
    large = ends.1;
    same = same;
    sooner = sooner_by (Some last) ends first left;
    at_once = wakes;
  }

  or_true : (a b : Bool) → b ≡ true → (a || b) ≡ true
  or_true true b is = refl
  or_true false b is = is

  -- it is as it was, or was given what was composed for another
  left_or_given : ServesUnless (turns.held || is_left old.first turns.last k) (screen_of old.share) turns.wants
      (seat_left old now k) (seat_in new.share k) → is_left old.first turns.last k ≡ true →
      (seat_in new.share k ≡ seat_left old now k)
      ⊎ ComposesIn (screen_of old.share) Composed (seat_left old now k) (seat_in new.share k)
  left_or_given serves left =
      subst (λ (h : Bool). ServesUnless h (screen_of old.share) turns.wants (seat_left old now k)
      (seat_in new.share k)) (or_true turns.held (is_left old.first turns.last k) left) serves

  -- an update was sent there
  abbrev IsSent : (seat : ShareSeat) → Type 0
  IsSent seat = (sent : ShareSeat) × (seat_in new.share k ≡ Some sent) × Sends (screen_of old.share) seat sent

  sent_or_left : (seat : ShareSeat) → turns.held ≡ false → turns.wants ≡ false →
      seat_left old now k ≡ Some seat → session_fault (session_at seat) ≡ None → waiting_in seat ≡ [] →
      OwesUpdate (screen_of old.share) (session_at seat) →
      ServesUnless (turns.held || is_left old.first turns.last k) (screen_of old.share) turns.wants
      (seat_left old now k) (seat_in new.share k) → IsSent seat ⊎ IsLeftOut old now k new
  sent_or_left seat shown enough there going written due serves = by (is_left old.first turns.last k) refl
    where
      by : (left : Bool) → is_left old.first turns.last k ≡ left → IsSent seat ⊎ IsLeftOut old now k new
      by true is = elim (left_or_given serves is) [
        | inl same ↦ inr (left_by turns.last turns.ends turns.first turns.next.left is same)
        | inr given ↦ inl (composes_at (screen_of old.share) Composed (seat_left old now k) (seat_in new.share k) seat
            given there)
      ]
      by false is =
          inl (due_sent old now slow stuck new turns k seat shown enough is serves there going written due)

  pub due_sent_or_left : (seat : ShareSeat) → turns.held ≡ false → turns.wants ≡ false →
      seat_left old now k ≡ Some seat → session_fault (session_at seat) ≡ None → waiting_in seat ≡ [] →
      OwesUpdate (screen_of old.share) (session_at seat) →
      IsSent seat ⊎ IsLeftOut old now k new ⊎ IsPutOff old now k new
  due_sent_or_left seat shown enough there going written due = by turns.busy refl (turns.seats k within)
    where
      served : IsSent seat ⊎ IsLeftOut old now k new →
          IsSent seat ⊎ IsLeftOut old now k new ⊎ IsPutOff old now k new
      served (inl sent) = inl sent
      served (inr left) = inr (inl left)

      by : (busy : Bool) → turns.busy ≡ busy → OrPutOff busy
          (ServesUnless (turns.held || is_left old.first turns.last k) (screen_of old.share) turns.wants
          (seat_left old now k) (seat_in new.share k)) (seat_left old now k) (seat_in new.share k) →
          IsSent seat ⊎ IsLeftOut old now k new ⊎ IsPutOff old now k new
      by false is serves = served (sent_or_left seat shown enough there going written due serves)
      by true is (inl same) =
          inr (inr (record { same = same; busy = turns.busy_is is; soon = turns.next.later is }))
      by true is (inr serves) = served (sent_or_left seat shown enough there going written due serves)

-- once 100 milliseconds are over nothing is put off
pub none_put_off : (old : Desk) (now slow stuck since : ℕ) (new : Desk) (turns : TurnsAs old now slow stuck new) →
    old.large ≡ Some since → since + 100 ≤ now → turns.busy ≡ false
none_put_off old now slow stuck since new turns began over = by turns.busy refl
  where
    by : (busy : Bool) → turns.busy ≡ busy → turns.busy ≡ false
    by false is = is
    by true is =
        let busy = turns.busy_is is in
        absurd (omega (arith, over, busy.fresh, ap (λ (o : Option ℕ). begun 0 o) (sym began ∙ busy.began)))

pub left_few : (k : ℕ) → k < 8 → (times : ℕ) (desk : Desk) → IsLeftFor k times desk →
    times + seats_before desk.first k < 8
left_few k within times desk (NotYet d) = omega (arith, before_below d.first k d.first_of_eight within)
left_few k within times desk (Again less before old new now slow stuck turns left same is) =
    omega (
      arith,
      left_few k within less before left,
      ap (λ (n : ℕ). seats_before n k) same,
      left_sooner old now slow stuck new turns k within is,
    )

pub one_large : (old : Desk) (now slow stuck : ℕ) (new : Desk) → TurnsAs old now slow stuck new → (j k : ℕ) →
    j < 8 →
    k < 8 → IsLarge (seat_left old now j) (seat_in new.share j) →
    IsLarge (seat_left old now k) (seat_in new.share k) → waits_at new.share j ≡ waits_at new.share k
one_large old now slow stuck new turns j k low within first second =
    by turns.last (turns.only j low first) (turns.only k within second)
  where
    by : (o : Option ℕ) → HasOfLast o (seat_in new.share) j → HasOfLast o (seat_in new.share) k →
        waits_at new.share j ≡ waits_at new.share k
    by None one two = absurd one
    by (Some last) one two = one ∙ sym two
