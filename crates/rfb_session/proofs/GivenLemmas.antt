-- What waits at a seat of a share, given to others: which seats were given it so far, and slots by two parts.
use Rattle.std.proofs.Common.{◌≡◌, ℕ, ◌<◌, ◌+◌, ◌||◌, ◌⊎◌, true, false}
use Rattle.std.proofs.Common.{nat_eq, List, length, Option, Some}
use Rattle.std.proofs.Common.{None, Bool, refl, sym, ap, subst, ◌∙◌, arith, inl, inr}
use Rattle.std.proofs.Common.{◌≢◌, ◌≤◌, set, ◌++◌}
use Rattle.std.specs.Option.{ForSome}
use Rattle.std.proofs.lemmas.List.{length-set, get_or-append_right}
use Rattle.std.proofs.lemmas.Bool.Decides.{nat_tests}
use Rattle.std.proofs.Math.ListN.{get_or-append}
use Rattle.std.proofs.lemmas.Bool.{cases_eq, both_ways}
use Rattle.rfb_pixel.specs.declared.colour.Colour.{Colour}
use Rattle.rfb_picture.specs.Grid.{Grid}
use Rattle.rfb_picture.specs.Places.{has_bit}
use Rattle.rfb_server.specs.KnownScreen.{Follows}
use Rattle.rfb_session.specs.declared.share.seat.ShareSeat.{ShareSeat}
use Rattle.rfb_session.specs.ShareSeats.{session_at}
use Rattle.rfb_session.specs.ShareTwins.{IsToBeGiven, IsHeirIn}
use Rattle.rfb_session.specs.ShareTwins.{IsGiven, IsGivenFrom, IsGivenTo, IsSharedIn}
use Rattle.rfb_session.specs.Slots.{seat_at}
use Rattle.rfb_session.proofs.SlotLemmas.{seat_set_same, seat_set_other, other}
use Rattle.rfb_session.proofs.ShareTwinLemmas.{or_true, or_false, none_of_or, heir_shared}

-- ---- what is given

-- the seats below one were given the update of seat `own`, where it is shared now, or are as they were
pub record IsGivenBelow (screen : Grid Colour) (shared : Option ShareSeat) (own among n : ℕ)
    (old now : List (Option ShareSeat)) (given : ℕ) : Type 0 where
  pub size : length now ≡ length old
  pub one : seat_at own now ≡ shared
  pub apart : has_bit given own ≡ false
  pub few : (k : ℕ) → has_bit given k ≡ true → k < n
  pub within : (k : ℕ) → has_bit given k ≡ true → has_bit among k ≡ true
  pub given_to : (k : ℕ) → has_bit given k ≡ true → IsGiven screen shared (seat_at k old) (seat_at k now)
  pub follows : (k : ℕ) → has_bit given k ≡ true →
      ForSome (seat_at k now) (λ seat. Follows screen (session_at seat))
  pub others : (k : ℕ) → nat_eq k own ≡ false → has_bit given k ≡ false → seat_at k now ≡ seat_at k old

-- at first none was
pub given_start : (screen : Grid Colour) (shared : Option ShareSeat) (own among none : ℕ)
    (old : List (Option ShareSeat)) → ((k : ℕ) → has_bit none k ≡ false) →
    IsGivenBelow screen (seat_at own (set old own shared)) own among 0 old (set old own shared) none
given_start screen shared own among none old clear = record {
  size = length-set old own shared;
  one = refl;
  apart = clear own;
  few = λ k e. absurd (both_ways (has_bit none k) (clear k) e);
  within = λ k e. absurd (both_ways (has_bit none k) (clear k) e);
  given_to = λ k e. absurd (both_ways (has_bit none k) (clear k) e);
  follows = λ k e. absurd (both_ways (has_bit none k) (clear k) e);
  others = λ k differ e. seat_set_other old own k shared differ;
}

same_number : (n : ℕ) → nat_eq n n ≡ true
same_number n = grind (arith, nat_tests)

-- a seat that was not reached was given none
not_yet : (screen : Grid Colour) (shared : Option ShareSeat) (own among n given : ℕ)
    (old now : List (Option ShareSeat)) → IsGivenBelow screen shared own among n old now given →
    has_bit given n ≡ false
not_yet screen shared own among n given old now before = by (has_bit given n) refl
  where
    by : (b : Bool) → has_bit given n ≡ b → has_bit given n ≡ false
    by true e = absurd (omega (arith, before.few n e))
    by false e = e

-- one seat more
module _ (screen : Grid Colour) (shared : Option ShareSeat) (own among n given gift more : ℕ)
    (old now new : List (Option ShareSeat)) (size : length new ≡ length now)
    (before : IsGivenBelow screen shared own among n old now given)
    (bits : (k : ℕ) → has_bit more k ≡ (has_bit given k || has_bit gift k))
    (only : (k : ℕ) → has_bit gift k ≡ true → (k ≡ n) × (nat_eq k own ≡ false))
    (among_these : (k : ℕ) → has_bit gift k ≡ true → has_bit among k ≡ true)
    (sent : has_bit gift n ≡ true → IsGivenFrom screen own n now new)
    (none : has_bit gift n ≡ false → seat_at n new ≡ seat_at n now)
    (rest : (k : ℕ) → nat_eq k n ≡ false → seat_at k new ≡ seat_at k now) where
  gift_here : (k : ℕ) → has_bit gift k ≡ true → has_bit gift n ≡ true
  gift_here k e = subst (λ (j : ℕ). has_bit gift j ≡ true) ((only k e).0) e

  -- a seat that was given it now was as at first
  was : (k : ℕ) → has_bit gift k ≡ true → seat_at n now ≡ seat_at k old
  was k e =
      let (same, apart) = only k e in
      subst (λ (j : ℕ). seat_at n now ≡ seat_at j old) (sym same)
      (before.others n (ap (λ (j : ℕ). nat_eq j own) (sym same) ∙ apart)
      (not_yet screen shared own among n given old now before))

  gift_given : (k : ℕ) → has_bit gift k ≡ true → IsGiven screen shared (seat_at k old) (seat_at k new)
  gift_given k e =
      subst (λ (j : ℕ). IsGiven screen shared (seat_at k old) (seat_at j new)) (sym ((only k e).0))
      (subst (λ (s : Option ShareSeat). IsGiven screen shared s (seat_at n new)) (was k e)
      (subst (λ (s : Option ShareSeat). IsGiven screen s (seat_at n now) (seat_at n new)) before.one
      ((sent (gift_here k e)).given)))

  gift_follows : (k : ℕ) → has_bit gift k ≡ true →
      ForSome (seat_at k new) (λ seat. Follows screen (session_at seat))
  gift_follows k e =
      subst (λ (j : ℕ). ForSome (seat_at j new) (λ seat. Follows screen (session_at seat)))
      (sym ((only k e).0)) ((sent (gift_here k e)).follows)

  kept_at : (k : ℕ) → has_bit given k ≡ true → seat_at k new ≡ seat_at k now
  kept_at k e = rest k (other k n (λ is. absurd (omega (arith, is, before.few k e))))

  clear_both : (k : ℕ) → has_bit more k ≡ false → (has_bit given k ≡ false) × (has_bit gift k ≡ false)
  clear_both k e = or_false (has_bit given k) (has_bit gift k) (sym (bits k) ∙ e)

  none_own : (b : Bool) → has_bit gift own ≡ b → has_bit gift own ≡ false
  none_own true e = absurd (both_ways (nat_eq own own) (only own e).1 (same_number own))
  none_own false e = e

  still : (k : ℕ) → has_bit gift k ≡ false → ((k ≡ n) ⊎ (k ≢ n)) → seat_at k new ≡ seat_at k now
  still k e (inl is) =
      subst (λ (j : ℕ). seat_at j new ≡ seat_at j now) (sym is)
      (none (subst (λ (j : ℕ). has_bit gift j ≡ false) is e))
  still k e (inr differ) = rest k (other k n differ)

  pub given_more : IsGivenBelow screen shared own among (n + 1) old new more
  given_more = record {
    size = size ∙ before.size;
    one = still own (none_own (has_bit gift own) refl) (cases_eq own n) ∙ before.one;
    apart = bits own
        ∙ none_of_or (has_bit given own) (has_bit gift own) before.apart (none_own (has_bit gift own) refl);
    few = λ k e. elim (or_true (has_bit given k) (has_bit gift k) (sym (bits k) ∙ e)) [
      | inl early ↦ omega (arith, before.few k early)
      | inr late ↦ omega (arith, (only k late).0)
    ];
    within = λ k e. elim (or_true (has_bit given k) (has_bit gift k) (sym (bits k) ∙ e)) [
      | inl early ↦ before.within k early
      | inr late ↦ among_these k late
    ];
    given_to = λ k e. elim (or_true (has_bit given k) (has_bit gift k) (sym (bits k) ∙ e)) [
      | inl early ↦ subst (λ (s : Option ShareSeat). IsGiven screen shared (seat_at k old) s)
          (sym (kept_at k early)) (before.given_to k early)
      | inr late ↦ gift_given k late
    ];
    follows = λ k e. elim (or_true (has_bit given k) (has_bit gift k) (sym (bits k) ∙ e)) [
      | inl early ↦ subst (λ (s : Option ShareSeat). ForSome s (λ seat. Follows screen (session_at seat)))
          (sym (kept_at k early)) (before.follows k early)
      | inr late ↦ gift_follows k late
    ];
    others = λ k apart e.
        let (clear, none_now) = clear_both k e in
        still k none_now (cases_eq k n) ∙ before.others k apart clear;
  }

-- what waits at the seat is shared from the beginning on
pub shared_there : (old : List (Option ShareSeat)) (own : ℕ) (first shared : Option ShareSeat) →
    own < length old → first ≡ seat_at own old → IsSharedIn first shared →
    IsSharedIn (seat_at own old) (seat_at own (set old own shared))
shared_there old own first shared below there is =
    subst (λ (s : Option ShareSeat). IsSharedIn s (seat_at own (set old own shared))) there
    (subst (λ (s : Option ShareSeat). IsSharedIn first s) (sym (seat_set_same old own shared below)) is)

-- in the end all its twins were given it that were to be
pub given_end : (screen : Grid Colour) (shared : Option ShareSeat) (own among n given : ℕ)
    (old now : List (Option ShareSeat)) → IsSharedIn (seat_at own old) shared →
    IsGivenBelow screen shared own among n old now given → IsGivenTo screen own old now given
given_end screen shared own among n given old now is_shared below = record {
  own_shared = subst (λ (s : Option ShareSeat). IsSharedIn (seat_at own old) s) (sym below.one) is_shared;
  apart = below.apart;
  given_to = λ k e. subst (λ (s : Option ShareSeat). IsGiven screen s (seat_at k old) (seat_at k now))
      (sym below.one) (below.given_to k e);
  others = below.others;
  follows = below.follows;
}

-- whoever is to be given it still is
heir_in : (screen : Grid Colour) (first shared slot : Option ShareSeat) → IsSharedIn first shared →
    IsHeirIn screen first slot → IsHeirIn screen shared slot
heir_in screen first shared slot is heir =
    by shared (subst (λ (s : Option ShareSeat). IsSharedIn s shared) heir.is_sent is)
  where
    by : (s : Option ShareSeat) → IsSharedIn (Some heir.sent) s → IsHeirIn screen s slot
    by None is = absurd is
    by (Some now) is = record {
      sent = now;
      is_sent = refl;
      heir = heir_shared screen heir.sent now slot is heir.heir;
    }

pub heir_still : (screen : Grid Colour) (shared : Option ShareSeat) (own among n given : ℕ)
    (old now : List (Option ShareSeat)) → IsSharedIn (seat_at own old) shared →
    IsGivenBelow screen shared own among n old now given → IsToBeGiven screen old own n →
    IsToBeGiven screen now own n
heir_still screen shared own among n given old now is_shared below gift = record {
  apart = gift.apart;
  heir = subst (λ (s : Option ShareSeat). IsHeirIn screen s (seat_at n now)) (sym below.one)
      (subst (λ (s : Option ShareSeat). IsHeirIn screen shared s)
      (sym (below.others n gift.apart (not_yet screen shared own among n given old now below)))
      (heir_in screen (seat_at own old) shared (seat_at n old) is_shared gift.heir));
}

-- ---- slots by two parts

-- a seat of the first part
pub seat_before : (slots front back : List (Option ShareSeat)) (k : ℕ) → slots ≡ front ++ back →
    k < length front → seat_at k slots ≡ seat_at k front
seat_before slots front back k is below =
    ap (λ (l : List (Option ShareSeat)). seat_at k l) is ∙ get_or-append front back None k below

-- and the first one of the second part
pub seat_between : (slots front back : List (Option ShareSeat)) (k : ℕ) → slots ≡ front ++ back →
    length front ≡ k → seat_at k slots ≡ seat_at 0 back
seat_between slots front back k is size =
    ap (λ (l : List (Option ShareSeat)). seat_at k l) is
    ∙ (get_or-append_right front back k k None size (omega arith)
    ∙ ap (λ (j : ℕ). seat_at j back) (omega arith))

pub own_before : (k own : ℕ) → nat_eq k own ≡ false → own ≤ k → own < k
own_before k own apart le = grind (arith, nat_tests, apart, le)

-- what waits at one of two borrowed slots is to be given to the other; and was
pub heir_between : (screen : Grid Colour) (slots : List (Option ShareSeat)) (own k : ℕ)
    (one slot : Option ShareSeat) → seat_at own slots ≡ one → seat_at k slots ≡ slot →
    IsHeirIn screen (seat_at own slots) (seat_at k slots) → IsHeirIn screen one slot
heir_between screen slots own k one slot is_one is_slot heir =
    subst (λ (s : Option ShareSeat). IsHeirIn screen s slot) is_one
    (subst (λ (s : Option ShareSeat). IsHeirIn screen (seat_at own slots) s) is_slot heir)

pub given_between : (screen : Grid Colour) (old new : List (Option ShareSeat)) (own k : ℕ)
    (one was slot : Option ShareSeat) → seat_at own old ≡ one → seat_at k old ≡ was →
    seat_at k new ≡ slot → IsGiven screen one was slot →
    ForSome slot (λ seat. Follows screen (session_at seat)) →
    IsGivenFrom screen own k old new
given_between screen old new own k one was slot is_one is_was is_slot given follows = record {
  given = subst (λ (s : Option ShareSeat). IsGiven screen s (seat_at k old) (seat_at k new)) (sym is_one)
      (subst (λ (s : Option ShareSeat). IsGiven screen one s (seat_at k new)) (sym is_was)
      (subst (λ (s : Option ShareSeat). IsGiven screen one was s) (sym is_slot) given));
  follows = subst (λ (s : Option ShareSeat). ForSome s (λ seat. Follows screen (session_at seat)))
      (sym is_slot) follows;
}
