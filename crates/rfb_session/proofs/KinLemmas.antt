-- Seats of a share that are kin know the same, whatever becomes of the seats.
use Rattle.std.proofs.Common.{◌≡◌, ◌≢◌, ℕ, ◌<◌, ◌≤◌, ◌+◌, ◌||◌, ◌∙◌, Bool}
use Rattle.std.proofs.Common.{true, false, nat_eq, List, length, set}
use Rattle.std.proofs.Common.{Option, Some, None, refl, sym, ap, subst, arith, inl, inr, ◌⊎◌}
use Rattle.std.proofs.Common.{if◌then◌else◌}
use Rattle.std.specs.Bool.{OnTrue}
use Rattle.std.specs.Option.{ForSome}
use Rattle.std.proofs.lemmas.Bool.{cases_eq, cases_lt, eqb-true, OnTrue_at}
use Rattle.std.proofs.lemmas.List.{get_or_past}
use Rattle.std.proofs.lemmas.Bool.Decides.{nat_tests}
use Rattle.rfb_pixel.specs.declared.colour.Colour.{Colour}
use Rattle.rfb_picture.specs.Grid.{Grid}
use Rattle.rfb_picture.specs.Places.{has_bit}
use Rattle.rfb_server.specs.KnownScreen.{Follows}
use Rattle.rfb_server.specs.Model.{Notes}
use Rattle.rfb_server.specs.Record.{KeepsOrForgets}
use Rattle.rfb_session.specs.declared.share.event.Composing.{Composing}
use Rattle.rfb_session.specs.declared.share.event.Composing.TheVariants.{Composed, NotDue, Waiting, NoSuchSeat}
use Rattle.rfb_session.specs.declared.share.kin.Kin.{Kin}
use Rattle.rfb_session.specs.declared.share.seat.ShareSeat.{ShareSeat}
use Rattle.rfb_session.specs.ShareKin.{AreKin, KnowAlike, KnowAs, KnowsFirst, Leaves}
use Rattle.rfb_session.specs.ShareKin.{StaysOrLeaves, StillKnows, is_met, known_at, known_in, number_at}
use Rattle.rfb_session.specs.ShareSeats.{KeepsShareSeat, session_at}
use Rattle.rfb_session.specs.ShareSlots.{ComposesIn, WantsRoomIn}
use Rattle.rfb_session.specs.ShareSteps.{IsIdle}
use Rattle.rfb_session.specs.ShareTwins.{IsGivenTo}
use Rattle.rfb_session.specs.Slots.{OnSlot, seat_at}
use Rattle.rfb_session.proofs.ShareTwinLemmas.{or_true, or_false}
use Rattle.rfb_session.proofs.SlotLemmas.{seat_set_same, seat_set_other, on_seat, other}

-- where each seat that is taken still knows what it knew, kin know the same
pub alike_still : (kin : Kin) (old new : List (Option ShareSeat)) →
    ((k : ℕ) → StillKnows (seat_at k old) (seat_at k new)) → KnowAlike kin old → KnowAlike kin new
alike_still kin old new still alike j k one another are is_one is_other =
    let (a, is_a, same_a) = still j one is_one in
    let (b, is_b, same_b) = still k another is_other in
    same_b ∙ (alike j k a b are is_a is_b ∙ sym same_a)

pub still_same : (old new : Option ShareSeat) → new ≡ old → StillKnows old new
still_same old new same seat is = (seat, sym same ∙ is, refl)

pub still_gone : (old new : Option ShareSeat) → new ≡ None → StillKnows old new
still_gone old new gone seat is = absurd (cc)

-- a seat that has nothing new but marks and hints knows what it knew
pub still_kept : (R : ShareSeat → ShareSeat → Type 0) (old new : Option ShareSeat) →
    ((a b : ShareSeat) → R a b → KeepsShareSeat a b) → OnSlot R old new → StillKnows old new
still_kept R old new keeps on seat is =
    let (was, is_was, r) = on_seat R old new seat on is in
    (was, is_was, ap (λ (n : Notes). n.known) (keeps was seat r).session.notes_are)

still_one : (old new : ShareSeat) → known_at new ≡ known_at old → StillKnows (Some old) (Some new)
still_one old new same seat is = (old, refl, subst (λ (s : ShareSeat). known_at s ≡ known_at old) (unwrap is) same)
  where
    unwrap : {a b : ShareSeat} → Some a ≡ Some b → a ≡ b
    unwrap e = cc

-- so does one that was fed bytes, where something is known of the first place
pub still_heard : (slot : Option ShareSeat) (old new : ShareSeat) → slot ≡ Some old →
    KeepsOrForgets (known_at old) (known_at new) → KnowsFirst (Some new) → StillKnows slot (Some new)
still_heard slot old new is keeps first =
    subst (λ (o : Option ShareSeat). StillKnows o (Some new)) (sym is)
    (still_one old new (keeps (first new refl)))

-- so does one for which no update was composed
pub still_wants : (screen : Grid Colour) (old new : Option ShareSeat) → WantsRoomIn screen old new →
    StillKnows old new
still_wants screen None None wants = absurd wants
still_wants screen None (Some b) wants = absurd wants
still_wants screen (Some a) None wants = absurd wants
still_wants screen (Some a) (Some b) wants = still_one a b (ap (λ (n : Notes). n.known) wants.kept.notes_are)

pub still_composes : (screen : Grid Colour) (told : Composing) (old new : Option ShareSeat) →
    (told ≡ Composed → ⊥) → ComposesIn screen told old new → StillKnows old new
still_composes screen Composed old new none composes = absurd (none refl)
still_composes screen NotDue (Some a) (Some b) none composes =
    still_one a b (ap (λ (n : Notes). n.known) composes.none.kept.notes_are)
still_composes screen NotDue None None none composes = absurd composes
still_composes screen NotDue None (Some b) none composes = absurd composes
still_composes screen NotDue (Some a) None none composes = absurd composes
still_composes screen Waiting (Some a) (Some b) none composes =
    still_one a b (ap (λ (s : ShareSeat). known_at s) composes.same)
still_composes screen Waiting None None none composes = absurd composes
still_composes screen Waiting None (Some b) none composes = absurd composes
still_composes screen Waiting (Some a) None none composes = absurd composes
still_composes screen NoSuchSeat None None none composes = still_gone None None refl
still_composes screen NoSuchSeat (Some a) (Some b) none composes = absurd composes
still_composes screen NoSuchSeat None (Some b) none composes = absurd composes
still_composes screen NoSuchSeat (Some a) None none composes = absurd composes

pub told_apart : (told : Composing) → told ≡ Waiting → told ≡ Composed → ⊥
told_apart told waits composed = cc

pub idle_apart : (told : Composing) → ((told ≡ NotDue) ⊎ (told ≡ NoSuchSeat)) → told ≡ Composed → ⊥
idle_apart told (inl is) composed = cc
idle_apart told (inr is) composed = cc

pub told_idle : (told : Composing) → ((told ≡ NotDue) ⊎ (told ≡ NoSuchSeat)) → IsIdle told
told_idle told (inl is) = subst (λ (t : Composing). IsIdle t) (sym is) tt
told_idle told (inr is) = subst (λ (t : Composing). IsIdle t) (sym is) tt

-- so it is where all but one slot are as they were, and this one still knows
pub alike_set : (kin : Kin) (seats : List (Option ShareSeat)) (place : ℕ) (slot : Option ShareSeat) →
    place < length seats → StillKnows (seat_at place seats) slot → KnowAlike kin seats →
    KnowAlike kin (set seats place slot)
alike_set kin seats place slot within still =
    alike_still kin seats (set seats place slot) (λ k. by k (cases_eq k place))
  where
    by : (k : ℕ) → ((k ≡ place) ⊎ (k ≢ place)) →
        StillKnows (seat_at k seats) (seat_at k (set seats place slot))
    by k (inl is) =
        rw is (λ seat there. still seat (sym (seat_set_same seats place slot within) ∙ there))
    by k (inr differ) = still_same _ _ (seat_set_other seats place k slot (other k place differ))

-- a seat has no kin any more
pub alike_left : (old new : Kin) (seats : List (Option ShareSeat)) (place : ℕ) → Leaves place old new →
    KnowAlike old seats → KnowAlike new seats
alike_left old new seats place left alike j k one another are = alike j k one another ((left j k are).0)

-- so whoever sits there may know anything
pub alike_apart : (old new : Kin) (seats : List (Option ShareSeat)) (place : ℕ) (slot : Option ShareSeat) →
    Leaves place old new → KnowAlike old seats → KnowAlike new (set seats place slot)
alike_apart old new seats place slot left alike j k one another are is_one is_other =
    let (was, apart_j, apart_k) = left j k are in
    alike j k one another was (sym (seat_set_other seats place j slot apart_j) ∙ is_one)
    (sym (seat_set_other seats place k slot apart_k) ∙ is_other)

-- after bytes of a seat it has its kin where it still knows what it knew, and has left them otherwise
pub stays_or_leaves : (knows : Bool) (place : ℕ) (old new : Kin) (was now : Option ShareSeat) →
    (knows ≡ true → new ≡ old) → (knows ≡ false → Leaves place old new) →
    OnTrue knows (KnowsFirst now) →
    (KnowsFirst now → StillKnows was now) → StaysOrLeaves place old new was now
stays_or_leaves true place old new was now stays leaves first still =
    inl (stays refl, still (OnTrue_at refl first))
stays_or_leaves false place old new was now stays leaves first still = inr (leaves refl)

pub alike_heard : (before after : Kin) (seats : List (Option ShareSeat)) (place : ℕ)
    (slot : Option ShareSeat) → place < length seats →
    StaysOrLeaves place before after (seat_at place seats) slot → KnowAlike before seats →
    KnowAlike after (set seats place slot)
alike_heard before after seats place slot within (inl (kept, still)) alike =
    subst (λ (kin : Kin). KnowAlike kin (set seats place slot)) (sym kept)
    (alike_set before seats place slot within still alike)
alike_heard before after seats place slot within (inr leaves) alike =
    alike_apart before after seats place slot leaves alike

-- those that met know the same, and the others are as they were
module _ (old new : Kin) (own others : ℕ) (before after : List (Option ShareSeat))
    (meets : (j k : ℕ) → AreKin new j k → is_met own others j ≡ is_met own others k)
    (was : (j k : ℕ) → AreKin new j k → is_met own others j ≡ false → AreKin old j k)
    (met : (k : ℕ) → is_met own others k ≡ true → known_in (seat_at k after) ≡ known_in (seat_at own after))
    (rest : (k : ℕ) → is_met own others k ≡ false → seat_at k after ≡ seat_at k before)
    (alike : KnowAlike old before) where
  same_known : (a b : Option ShareSeat) (one another : ShareSeat) → known_in a ≡ known_in b →
      b ≡ Some one → a ≡ Some another → known_at another ≡ known_at one
  same_known a b one another same is_one is_other = unwrap (sym (ap known_in is_other) ∙ same ∙ ap known_in is_one)
    where
      unwrap : {g h : Grid (Option ℕ)} → Some g ≡ Some h → g ≡ h
      unwrap e = cc

  pub alike_met : KnowAlike new after
  alike_met j k one another are is_one is_other = by (is_met own others j) refl
    where
      by : (b : Bool) → is_met own others j ≡ b → known_at another ≡ known_at one
      by true e = same_known (seat_at k after) (seat_at j after) one another
          (met k (sym (meets j k are) ∙ e) ∙ sym (met j e)) is_one is_other
      by false e = alike j k one another (was j k are e) (sym (rest j e) ∙ is_one)
          (sym (rest k (sym (meets j k are) ∙ e)) ∙ is_other)

-- so it is of those that were given an update
pub alike_given : (screen : Grid Colour) (own given : ℕ) (old new : Kin)
    (before after : List (Option ShareSeat)) → IsGivenTo screen own before after given →
    ((j k : ℕ) → AreKin new j k → is_met own given j ≡ is_met own given k) →
    ((j k : ℕ) → AreKin new j k → is_met own given j ≡ false → AreKin old j k) →
    KnowAlike old before → KnowAlike new after
alike_given screen own given old new before after gives meets was alike =
    alike_met old new own given before after meets was
    (λ k e. elim (or_true (nat_eq k own) (has_bit given k) e) [
      | inl is ↦ ap (λ (n : ℕ). known_in (seat_at n after)) (same_as k own is)
      | inr bit ↦ (gives.given_to k bit).known
    ])
    (λ k e. let (apart, clear) = or_false (nat_eq k own) (has_bit given k) e in gives.others k apart clear) alike
  where
    same_as : (k n : ℕ) → nat_eq k n ≡ true → k ≡ n
    same_as k n e = grind (arith, nat_tests, e)

-- one seat more is found to know the same
pub alike_more : (slots : List (Option ShareSeat)) (own n alike more number : ℕ) → number ≡ n →
    ((k : ℕ) → has_bit more k ≡ (has_bit alike k || nat_eq k number)) → KnowAs slots own n →
    ((k : ℕ) → has_bit alike k ≡ true → KnowAs slots own k) →
    (k : ℕ) → has_bit more k ≡ true → KnowAs slots own k
alike_more slots own n alike more number same bits here before k e =
    elim (or_true (has_bit alike k) (nat_eq k number) (sym (bits k) ∙ e)) [
      | inl old ↦ before k old
      | inr new ↦ subst (λ (j : ℕ). KnowAs slots own j) (sym (eqb-true k number new ∙ same)) here
    ]

-- so it is of those that are found to know the same
pub alike_shown : (screen : Grid Colour) (own alike : ℕ) (old new : Kin) (seats : List (Option ShareSeat)) →
    ((k : ℕ) → has_bit alike k ≡ true → KnowAs seats own k) →
    ((k : ℕ) → ForSome (seat_at k seats) (λ seat. Follows screen (session_at seat))) →
    ((j k : ℕ) → AreKin new j k → is_met own alike j ≡ is_met own alike k) →
    ((j k : ℕ) → AreKin new j k → is_met own alike j ≡ false → AreKin old j k) →
    KnowAlike old seats → KnowAlike new seats
alike_shown screen own alike old new seats found follow meets was before =
    alike_met old new own alike seats seats meets was
    (λ k e. elim (or_true (nat_eq k own) (has_bit alike k) e) [
      | inl is ↦ ap (λ (n : ℕ). known_in (seat_at n seats)) (same_as k own is)
      | inr bit ↦
          let know = found k bit in
          ap known_in know.knows.is_other
          ∙ (ap (λ (g : Grid (Option ℕ)). Some g) (know.knows.knows screen (follow own know.one know.is_one)
          (follow k know.knows.other know.knows.is_other))
          ∙ sym (ap known_in know.is_one))
    ])
    (λ k e. refl) before
  where
    same_as : (k n : ℕ) → nat_eq k n ≡ true → k ≡ n
    same_as k n e = grind (arith, nat_tests, e)

-- ---- numbers

-- where those that meet have a number that is new, they are kin of each other, and of no others
module _ (own others number : ℕ) (old new : Kin) (fresh : number ≡ old.latest + 1)
    (each : (k : ℕ) → k < 8 → number_at new k ≡ (if is_met own others k then number else number_at old k)) where
  below : (k : ℕ) → 0 < number_at new k → k < 8
  below k some = by (cases_lt k 8)
    where
      by : ((k < 8) ⊎ (8 ≤ k)) → k < 8
      by (inl lt) = lt
      by (inr past) = absurd (omega (arith, some, get_or_past new.numbers k 0 (omega (arith, past, new.eight))))

  at : (k : ℕ) (b : Bool) → 0 < number_at new k → is_met own others k ≡ b →
      number_at new k ≡ (if b then number else number_at old k)
  at k b some is = each k (below k some)
      ∙ ap (λ (met : Bool). if met then number else number_at old k) is

  pub numbers_meet : (j k : ℕ) → AreKin new j k → is_met own others j ≡ is_met own others k
  numbers_meet j k are = by (is_met own others j) (is_met own others k) refl refl
    where
      other_some : 0 < number_at new k
      other_some = rw are.same are.some

      by : (a b : Bool) → is_met own others j ≡ a → is_met own others k ≡ b → a ≡ b
      by true true met met_too = refl
      by false false met met_too = refl
      by true false met met_too =
          absurd (omega (arith, fresh, are.same, at j true are.some met, at k false other_some met_too, old.within k))
      by false true met met_too =
          absurd (omega (arith, fresh, are.same, at j false are.some met, at k true other_some met_too, old.within j))

  pub numbers_stay : (j k : ℕ) → AreKin new j k → is_met own others j ≡ false → AreKin old j k
  numbers_stay j k are apart =
      let one = at j false are.some apart in
      let two = at k false (rw are.same are.some) (sym (numbers_meet j k are) ∙ apart) in
      record {
        some = omega (arith, are.some, one);
        same = sym two ∙ are.same ∙ one;
      }
