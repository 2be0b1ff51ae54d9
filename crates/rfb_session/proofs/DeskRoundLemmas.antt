-- The seats of a desk are served going round, up to one for which a large update is composed.
use Rattle.std.proofs.Common.{◌≡◌, ◌<◌, ◌≤◌, ◌+◌, ◌∙◌, ◌||◌, ◌&&◌, ◌⊎◌, ℕ}
use Rattle.std.proofs.Common.{suc, Bool, true, false, not, []}
use Rattle.std.proofs.Common.{Option, Some, None, refl}
use Rattle.std.proofs.lemmas.Bool.{both_ways}
use Rattle.std.proofs.Common.{sym, ap, subst, arith, inl, inr, nat_eq}
use Rattle.std.proofs.lemmas.Bool.Decides.{eqb_tells, leb_tells}
use Rattle.rfb_session.specs.declared.console.desk.Desk.{Desk}
use Rattle.rfb_session.specs.declared.share.seat.ShareSeat.{ShareSeat}
use Rattle.rfb_session.specs.Rounds.{seat_after, seats_before}
use Rattle.rfb_session.specs.Share.{seat_in, screen_of, waiting_for}
use Rattle.rfb_session.specs.ShareSteps.{KeepsScreen}
use Rattle.rfb_session.specs.ShareWork.{RestsIn}
use Rattle.rfb_session.specs.console.Updates.{Serves, ServesUnless, ComposesOne, RoundUpTo, ComposesRound, IsLarge}
use Rattle.rfb_session.specs.console.Updates.{KeepsBeside, OrPutOff, TriesOne, Tried, Rested}
use Rattle.rfb_picture.specs.Places.{has_bit}
use Rattle.rfb_session.specs.ShareSlots.{ComposesIn}
use Rattle.rfb_session.specs.console.Updates.{IsGivenSmall}
use Rattle.rfb_session.specs.ShareTwins.{IsGiven}
use Rattle.rfb_session.specs.declared.share.event.Composing.TheVariants.{Composed}
use Rattle.rfb_session.proofs.DeskLemmas.{both_stay, serves_one, serves_more, or_first, or_second}
use Rattle.rfb_session.proofs.DeskSeatLemmas.{not_large, gift_small, not_put_off, put_off, put_off_more}
use Rattle.rfb_session.proofs.DeskSeatLemmas.{differs, first_of, second_of, not_true, first_false, second_false}
use Rattle.rfb_session.proofs.RoundLemmas.{after_below, before_below, before_after, before_one}

-- before the first seat
pub round_start : (busy : Bool) (old : Desk) (due : ℕ) → RoundUpTo 0 busy old due due false old
round_start busy old due = record {
  seats = λ k low none. absurd (omega (arith, none));
  small = λ k low none. absurd (omega (arith, none));
  gone = λ k low none. absurd (omega (arith, none));
  some = λ k low e. e;
  given_to = λ k low from is gone. absurd (both_ways (has_bit due k) gone is);
  later = λ k low from why. refl;
  screen = record { screen = refl; canvas = refl; viewer = refl; made = refl };
  beside = record {
    guests = λ k. refl;
    lines = refl;
    rules = record { rules = refl; hold = refl; first = refl; large = refl };
  };
}

-- one seat more, which is tried where it was left
module _ {step p due left others given : ℕ} (less : ℕ) (busy : Bool) {old mid new : Desk} {wants more tries : Bool}
    (within : step < 8) (is : p ≡ seat_after old.first step)
    (rests : (k : ℕ) → has_bit due k ≡ false →
    (busy ≡ true) ⊎ RestsIn (screen_of old.share) (seat_in old.share k))
    (before : RoundUpTo step busy old due left wants mid)
    (tried : tries ≡ has_bit left p) (composed : ComposesOne mid p tries more others given new)
    (others_are : (k : ℕ) → k < 8 → has_bit others k ≡ (has_bit left k && not (nat_eq k p)))
    (less_are : (k : ℕ) → k < 8 → has_bit less k ≡ (has_bit others k && not (has_bit given k))) where
  one : ComposesOne mid p (has_bit left p) more others given new
  one = subst (λ (b : Bool). ComposesOne mid p b more others given new) tried composed

  here : p < 8
  here = subst (λ (n : ℕ). n < 8) (sym is) (after_below old.first step old.first_of_eight within)

  place : seats_before old.first p ≡ step
  place = ap (λ (n : ℕ). seats_before old.first n) is ∙ before_after old.first step old.first_of_eight within

  not_here : (k : ℕ) → k < 8 → seats_before old.first k < step → k ≡ p → ⊥
  not_here k low less_than same =
      let fewer : seats_before old.first p < step =
      subst (λ (n : ℕ). seats_before old.first n < step) same less_than in
      omega (arith, fewer, place)

  sooner : (k : ℕ) → k < 8 → seats_before old.first k < step + 1 → (k ≡ p → ⊥) →
      seats_before old.first k < step
  sooner k low less_than other = elim (leb_tells step (seats_before old.first k)) [
    | inl far ↦
        absurd (other (before_one old.first k p old.first_of_eight low here (omega (arith, less_than, far.1, place))))
    | inr near ↦ omega (arith, near.1)
  ]

  not_later : (k : ℕ) → step + 1 ≤ seats_before old.first k → k ≡ p → ⊥
  not_later k more_than same =
      let farther : step + 1 ≤ seats_before old.first p =
      subst (λ (n : ℕ). step + 1 ≤ seats_before old.first n) same more_than in
      omega (arith, farther, place)

  -- whoever is given an update was left
  was_left : (k : ℕ) → k < 8 → has_bit given k ≡ true → has_bit left k ≡ true
  was_left k low e = first_of (has_bit left k) (not (nat_eq k p)) (sym (others_are k low) ∙ one.within k e)

  not_given : (k : ℕ) → k < 8 → has_bit left k ≡ false → has_bit given k ≡ false
  not_given k low gone = by (has_bit given k) refl
    where
      by : (b : Bool) → has_bit given k ≡ b → has_bit given k ≡ false
      by true e = absurd (both_ways (has_bit left k) gone (was_left k low e))
      by false e = e

  -- a seat is served, or put off
  abbrev IsServed : (a b : Option ShareSeat) → Type 0
  IsServed a b = OrPutOff busy (Serves (screen_of old.share) (wants || more) a b) a b

  -- the seat itself
  mine : (b : Bool) → has_bit left p ≡ b → (d : Bool) → has_bit due p ≡ d →
      IsServed (seat_in old.share p) (seat_in new.share p)
  mine true e d f =
      let same = before.later p here (omega (arith, place)) (inr e) in
      not_put_off busy _ _ _ (serves_one (screen_of old.share) (has_bit left p) more (wants || more)
      (seat_in old.share p) (seat_in new.share p)
      (λ clear. absurd (both_ways (has_bit left p) clear e)) (or_second wants more)
      (rw (sym before.screen.screen, sym same) one.seat))
  mine false e true f =
      let given_before = before.given_to p here (omega (arith, place)) f e in
      let still : seat_in new.share p ≡ seat_in mid.share p =
      subst (λ (b : Bool). TriesOne (screen_of mid.share) b more (seat_in mid.share p)
      (seat_in new.share p)) e one.seat in
      not_put_off busy _ _ _ (Tried Composed (subst
      (λ (s : Option ShareSeat). ComposesIn (screen_of old.share) Composed (seat_in old.share p) s)
      (sym still) given_before.sent))
  mine false e false f =
      let same = before.later p here (omega (arith, place)) (inl f) in
      let still : seat_in new.share p ≡ seat_in mid.share p =
      subst (λ (b : Bool). TriesOne (screen_of mid.share) b more (seat_in mid.share p)
      (seat_in new.share p)) e one.seat in
      elim (rests p f) [
        | inl others_leave ↦ put_off busy _ _ _ others_leave (still ∙ same)
        | inr rested ↦ not_put_off busy _ _ _ (Rested rested (still ∙ same))
      ]

  served : (k : ℕ) → k < 8 → seats_before old.first k < step + 1 →
      IsServed (seat_in old.share k) (seat_in new.share k)
  served k low less_than = elim (eqb_tells k p) [
    | inl same ↦
        subst (λ (m : ℕ). IsServed (seat_in old.share m) (seat_in new.share m))
        (sym same.1) (mine (has_bit left p) refl (has_bit due p) refl)
    | inr other ↦
        let early = sooner k low less_than other.1 in
        subst (λ (s : Option ShareSeat). IsServed (seat_in old.share k) s)
        (sym (one.seats k other.0 (not_given k low (before.gone k low early))))
        (put_off_more busy _ _ _ _ (serves_more (screen_of old.share) wants (wants || more) _ _ (or_first wants more))
        (before.seats k low early))
  ]

  gone_so : (k : ℕ) → k < 8 → seats_before old.first k < step + 1 → has_bit less k ≡ false
  gone_so k low less_than = less_are k low
      ∙ first_false (has_bit others k) (not (has_bit given k)) (others_are k low ∙ elim (eqb_tells k p) [
        | inl same ↦ second_false (has_bit left k) (not (nat_eq k p)) (ap not same.0)
        | inr other ↦ first_false (has_bit left k) (not (nat_eq k p))
            (before.gone k low (sooner k low less_than other.1))
      ])

  some_so : (k : ℕ) → k < 8 → has_bit less k ≡ true → has_bit due k ≡ true
  some_so k low e =
      let in_others = first_of (has_bit others k) (not (has_bit given k)) (sym (less_are k low) ∙ e) in
      before.some k low (first_of (has_bit left k) (not (nat_eq k p)) (sym (others_are k low) ∙ in_others))

  not_left : (k : ℕ) → k < 8 → has_bit due k ≡ false → has_bit left k ≡ false
  not_left k low clear = by (has_bit left k) refl
    where
      by : (b : Bool) → has_bit left k ≡ b → has_bit left k ≡ false
      by true e = absurd (both_ways (has_bit due k) clear (before.some k low e))
      by false e = e

  -- a seat that comes later is as it was, or was given an update
  later_so : (k : ℕ) → k < 8 → step + 1 ≤ seats_before old.first k →
      (has_bit due k ≡ false) ⊎ (has_bit less k ≡ true) → seat_in new.share k ≡ seat_in old.share k
  later_so k low more_than why = elim why [
    | inl clear ↦
        let gone = not_left k low clear in
        one.seats k (differs k p (not_later k more_than)) (not_given k low gone)
        ∙ before.later k low (omega (arith, more_than)) (inl clear)
    | inr still ↦
        let both = sym (less_are k low) ∙ still in
        let in_others = first_of (has_bit others k) (not (has_bit given k)) both in
        let kept = first_of (has_bit left k) (not (nat_eq k p)) (sym (others_are k low) ∙ in_others) in
        one.seats k (differs k p (not_later k more_than))
        (not_true (has_bit given k) (second_of (has_bit others k) (not (has_bit given k)) both))
        ∙ before.later k low (omega (arith, more_than)) (inr kept)
  ]

  -- what is composed for the seat now is given to another
  abbrev IsGivenNow : (k : ℕ) → Type 0
  IsGivenNow k = (waiting_for (seat_in mid.share p) ≡ [])
      × IsGiven (screen_of old.share) (seat_in new.share p) (seat_in old.share k) (seat_in new.share k)

  given_so : (k : ℕ) → k < 8 → step + 1 ≤ seats_before old.first k → has_bit due k ≡ true →
      has_bit less k ≡ false →
      IsGivenSmall (screen_of old.share) (seat_in old.share k) (seat_in new.share k) ⊎ IsGivenNow k
  given_so k low more_than is_due gone = by (has_bit left k) refl (has_bit given k) refl
    where
      by : (b : Bool) → has_bit left k ≡ b → (g : Bool) → has_bit given k ≡ g →
          IsGivenSmall (screen_of old.share) (seat_in old.share k) (seat_in new.share k) ⊎ IsGivenNow k
      by false e g f = inl
          (subst (λ (s : Option ShareSeat). IsGivenSmall (screen_of old.share) (seat_in old.share k) s)
          (sym (one.seats k (differs k p (not_later k more_than)) (not_given k low e)))
          (before.given_to k low (omega (arith, more_than)) is_due e))
      by true e true f = inr (
        one.written k f,
        rw (sym before.screen.screen, sym (before.later k low (omega (arith, more_than)) (inr e))) (one.given_to k f),
      )
      by true e false f = absurd (both_ways (has_bit less k) gone (less_are k low
          ∙ (rw (others_are k low, e, differs k p (not_later k more_than), f) refl)))

  small : (k : ℕ) → k < 8 → seats_before old.first k < step →
      IsLarge (seat_in old.share k) (seat_in new.share k) → ⊥
  small k low less_than large =
      before.small k low less_than (subst (λ (s : Option ShareSeat). IsLarge (seat_in old.share k) s)
      (one.seats k (differs k p (not_here k low less_than)) (not_given k low (before.gone k low less_than))) large)

  -- a large one is what is composed for the seat now
  later_large : (k : ℕ) → k < 8 → step + 1 ≤ seats_before old.first k →
      IsLarge (seat_in old.share k) (seat_in new.share k) →
      waiting_for (seat_in new.share k) ≡ waiting_for (seat_in new.share p)
  later_large k low more_than large = by (has_bit due k) refl (has_bit less k) refl
    where
      by : (d : Bool) → has_bit due k ≡ d → (b : Bool) → has_bit less k ≡ b →
          waiting_for (seat_in new.share k) ≡ waiting_for (seat_in new.share p)
      by false e b f = absurd (not_large _ _ (later_so k low more_than (inl e)) large)
      by true e true f = absurd (not_large _ _ (later_so k low more_than (inr f)) large)
      by true e false f = elim (given_so k low more_than e f) [
        | inl early ↦ absurd (early.small large)
        | inr now ↦ now.1.same
      ]

  later_serves : (k : ℕ) → k < 8 → step + 1 ≤ seats_before old.first k →
      (seat_in new.share k ≡ seat_in old.share k)
      ⊎ ComposesIn (screen_of old.share) Composed (seat_in old.share k) (seat_in new.share k)
  later_serves k low more_than = by (has_bit due k) refl (has_bit less k) refl
    where
      by : (d : Bool) → has_bit due k ≡ d → (b : Bool) → has_bit less k ≡ b →
          (seat_in new.share k ≡ seat_in old.share k)
          ⊎ ComposesIn (screen_of old.share) Composed (seat_in old.share k) (seat_in new.share k)
      by false e b f = inl (later_so k low more_than (inl e))
      by true e true f = inl (later_so k low more_than (inr f))
      by true e false f = inr (elim (given_so k low more_than e f) [
        | inl early ↦ early.sent
        | inr now ↦ now.1.sent
      ])

  -- where the seat was given one before, nothing is composed for it now
  mid_or_given : (seat_in mid.share p ≡ seat_in old.share p)
      ⊎ (IsGivenSmall (screen_of old.share) (seat_in old.share p) (seat_in mid.share p)
      × (seat_in new.share p ≡ seat_in mid.share p))
  mid_or_given = by (has_bit left p) refl (has_bit due p) refl
    where
      by : (b : Bool) → has_bit left p ≡ b → (d : Bool) → has_bit due p ≡ d →
          (seat_in mid.share p ≡ seat_in old.share p)
          ⊎ (IsGivenSmall (screen_of old.share) (seat_in old.share p) (seat_in mid.share p)
          × (seat_in new.share p ≡ seat_in mid.share p))
      by true e d f = inl (before.later p here (omega (arith, place)) (inr e))
      by false e false f = inl (before.later p here (omega (arith, place)) (inl f))
      by false e true f = inr (
        before.given_to p here (omega (arith, place)) f e,
        subst (λ (b : Bool). TriesOne (screen_of mid.share) b more (seat_in mid.share p)
            (seat_in new.share p)) e one.seat,
      )

  mine_small : (IsLarge (seat_in mid.share p) (seat_in new.share p) → ⊥) →
      IsLarge (seat_in old.share p) (seat_in new.share p) → ⊥
  mine_small is_small large = elim mid_or_given [
    | inl same ↦ is_small (subst (λ (s : Option ShareSeat). IsLarge s (seat_in new.share p)) (sym same) large)
    | inr given ↦ given.0.small
        (subst (λ (s : Option ShareSeat). IsLarge (seat_in old.share p) s) given.1 large)
  ]

  mine_large : IsLarge (seat_in mid.share p) (seat_in new.share p) →
      IsLarge (seat_in old.share p) (seat_in new.share p)
  mine_large is_large = elim mid_or_given [
    | inl same ↦ subst (λ (s : Option ShareSeat). IsLarge s (seat_in new.share p)) same is_large
    | inr given ↦ absurd (not_large _ _ given.1 is_large)
  ]

  still : KeepsScreen old.share new.share × KeepsBeside old new
  still = both_stay old mid new before.screen before.beside one.screen one.beside

  pub round_next : (IsLarge (seat_in mid.share p) (seat_in new.share p) → ⊥) →
      RoundUpTo (step + 1) busy old due less (wants || more) new
  round_next is_small = record {
    seats = served;
    small = λ k low less_than large. elim (eqb_tells k p) [
      | inl same ↦
          mine_small is_small (subst (λ (m : ℕ). IsLarge (seat_in old.share m) (seat_in new.share m)) same.1 large)
      | inr other ↦ small k low (sooner k low less_than other.1) large
    ];
    gone = gone_so;
    some = some_so;
    given_to = λ k low more_than is_due gone. elim (given_so k low more_than is_due gone) [
      | inl early ↦ early
      | inr now ↦ record {
        sent = now.1.sent;
        small = gift_small _ _ _ _ _ now.0 now.1 is_small;
      }
    ];
    later = later_so;
    screen = still.0;
    beside = still.1;
  }

  pub round_ends : IsLarge (seat_in mid.share p) (seat_in new.share p) →
      ComposesRound old busy (wants || more) (Some p) new
  round_ends is_large = record {
    seats = λ k low.
        let Served : Bool → Type 0 = λ (b : Bool). OrPutOff busy
        (ServesUnless b (screen_of old.share) (wants || more) (seat_in old.share k) (seat_in new.share k))
        (seat_in old.share k) (seat_in new.share k) in
        elim (leb_tells (suc (seats_before old.first p)) (seats_before old.first k)) [
          | inl far ↦
              subst Served (sym far.0) (not_put_off busy _ _ _ (later_serves k low (omega (arith, far.1, place))))
          | inr reached ↦ subst Served (sym reached.0) (served k low (omega (arith, reached.1, place)))
        ];
    ends = (here, mine_large is_large);
    only = λ k low large. elim (eqb_tells k p) [
      | inl same ↦ ap (λ (n : ℕ). waiting_for (seat_in new.share n)) same.1
      | inr other ↦ elim (leb_tells (step + 1) (seats_before old.first k)) [
        | inl far ↦ later_large k low far.1 large
        | inr near ↦ absurd (small k low (sooner k low (omega (arith, near.1)) other.1) large)
      ]
    ];
    screen = still.0;
    beside = still.1;
  }

-- no update was a large one
pub round_done : (busy : Bool) (old : Desk) (due left : ℕ) (wants : Bool) (new : Desk) →
    RoundUpTo 8 busy old due left wants new → ComposesRound old busy wants None new
round_done busy old due left wants new all = record {
  seats = λ k low. all.seats k low (before_below old.first k old.first_of_eight low);
  ends = tt;
  only = λ k low large.
      absurd (all.small k low (before_below old.first k old.first_of_eight low) large);
  screen = all.screen;
  beside = all.beside;
}

-- nobody is left
pub round_rests : (busy : Bool) (old : Desk) (due left step : ℕ) (wants : Bool) (new : Desk) →
    ((k : ℕ) → has_bit due k ≡ false →
    (busy ≡ true) ⊎ RestsIn (screen_of old.share) (seat_in old.share k)) →
    RoundUpTo step busy old due left wants new → ((k : ℕ) → has_bit left k ≡ false) →
    ComposesRound old busy wants None new
round_rests busy old due left step wants new rests all none = record {
  seats = λ k low. elim (leb_tells step (seats_before old.first k)) [
    | inl far ↦ later k low (omega (arith, far.1)) (has_bit due k) refl
    | inr near ↦ all.seats k low (omega (arith, near.1))
  ];
  ends = tt;
  only = λ k low large. elim (leb_tells step (seats_before old.first k)) [
    | inl far ↦ absurd (none_large k low (omega (arith, far.1)) (has_bit due k) refl large)
    | inr near ↦ absurd (all.small k low (omega (arith, near.1)) large)
  ];
  screen = all.screen;
  beside = all.beside;
}
  where
    later : (k : ℕ) → k < 8 → step ≤ seats_before old.first k → (d : Bool) → has_bit due k ≡ d →
        OrPutOff busy (Serves (screen_of old.share) wants (seat_in old.share k) (seat_in new.share k))
        (seat_in old.share k) (seat_in new.share k)
    later k low far true is = not_put_off busy _ _ _ (Tried Composed (all.given_to k low far is (none k)).sent)
    later k low far false is =
        let same = all.later k low far (inl is) in
        elim (rests k is) [
          | inl others_leave ↦ put_off busy _ _ _ others_leave same
          | inr rested ↦ not_put_off busy _ _ _ (Rested rested same)
        ]

    none_large : (k : ℕ) → k < 8 → step ≤ seats_before old.first k → (d : Bool) → has_bit due k ≡ d →
        IsLarge (seat_in old.share k) (seat_in new.share k) → ⊥
    none_large k low far true is large = (all.given_to k low far is (none k)).small large
    none_large k low far false is large = not_large _ _ (all.later k low far (inl is)) large
