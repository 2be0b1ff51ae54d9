-- The seats of a desk are served in their order, and what is composed for one is given to others.
use Rattle.std.proofs.Common.{◌≡◌, ◌<◌, ◌≤◌, ◌+◌, ◌∙◌, ◌||◌, ◌&&◌, ◌⊎◌, ℕ}
use Rattle.std.proofs.Common.{Bool, true, false, not}
use Rattle.std.proofs.Common.{Option, None, refl}
use Rattle.std.proofs.lemmas.Bool.{both_ways}
use Rattle.std.proofs.lemmas.List.{get_or_past}
use Rattle.std.proofs.Common.{sym, ap, subst, arith, inl, inr, nat_eq}
use Rattle.std.proofs.lemmas.Bool.Decides.{eqb_tells}
use Rattle.rfb_picture.specs.Places.{has_bit}
use Rattle.rfb_session.specs.declared.console.desk.Desk.{Desk}
use Rattle.rfb_session.specs.declared.share.seat.ShareSeat.{ShareSeat}
use Rattle.rfb_session.specs.declared.share.event.Composing.TheVariants.{Composed}
use Rattle.rfb_session.specs.Share.{seat_in, screen_of}
use Rattle.rfb_session.specs.ShareSlots.{ComposesIn}
use Rattle.rfb_session.specs.ShareSteps.{KeepsScreen}
use Rattle.rfb_session.specs.ShareWork.{RestsIn}
use Rattle.rfb_session.specs.console.Updates.{Serves, ComposesOne, SharesUpTo, ComposesAll}
use Rattle.rfb_session.specs.console.Updates.{KeepsBeside, TriesOne, Tried, Rested}
use Rattle.rfb_session.proofs.DeskLemmas.{both_stay, serves_one, serves_more, or_first, or_second}
use Rattle.rfb_session.proofs.DeskSeatLemmas.{differs, first_of, second_of, not_true, first_false, second_false}

-- before the first seat
pub shares_start : (old : Desk) (due : ℕ) → SharesUpTo 0 old due due false old
shares_start old due = record {
  seats = λ k low none. absurd (omega (arith, none));
  gone = λ k low none. absurd (omega (arith, none));
  some = λ k low e. e;
  given_to = λ k low from is gone. absurd (both_ways (has_bit due k) gone is);
  later = λ k low from why. refl;
  screen = record { screen = refl; canvas = refl; viewer = refl; made = refl };
  beside = record {
    guests = λ k. refl;
    lines = refl;
    rules = record { rules = refl; hold = refl; first = refl; large = refl };
  };
}

-- one seat more, which is tried where it was left
module _ {p due left others given : ℕ} (less : ℕ) {old mid new : Desk} {wants more tries : Bool}
    (here : p < 8)
    (rests : (k : ℕ) → has_bit due k ≡ false → RestsIn (screen_of old.share) (seat_in old.share k))
    (before : SharesUpTo p old due left wants mid)
    (tried : tries ≡ has_bit left p) (composed : ComposesOne mid p tries more others given new)
    (others_are : (k : ℕ) → k < 8 → has_bit others k ≡ (has_bit left k && not (nat_eq k p)))
    (less_are : (k : ℕ) → k < 8 → has_bit less k ≡ (has_bit others k && not (has_bit given k))) where
  one : ComposesOne mid p (has_bit left p) more others given new
  one = subst (λ (b : Bool). ComposesOne mid p b more others given new) tried composed

  sooner : (k : ℕ) → k < p + 1 → (k ≡ p → ⊥) → k < p
  sooner k less_than other = elim (eqb_tells k p) [
    | inl same ↦ absurd (other same.1)
    | inr apart ↦ omega (arith, less_than, apart.1)
  ]

  not_later : (k : ℕ) → p + 1 ≤ k → k ≡ p → ⊥
  not_later k more_than same = omega (arith, more_than, same)

  -- whoever is given an update was left
  was_left : (k : ℕ) → k < 8 → has_bit given k ≡ true → has_bit left k ≡ true
  was_left k low e = first_of (has_bit left k) (not (nat_eq k p)) (sym (others_are k low) ∙ one.within k e)

  not_given : (k : ℕ) → k < 8 → has_bit left k ≡ false → has_bit given k ≡ false
  not_given k low gone = by (has_bit given k) refl
    where
      by : (b : Bool) → has_bit given k ≡ b → has_bit given k ≡ false
      by true e = absurd (both_ways (has_bit left k) gone (was_left k low e))
      by false e = e

  -- the seat itself
  mine : (b : Bool) → has_bit left p ≡ b → (d : Bool) → has_bit due p ≡ d →
      Serves (screen_of old.share) (wants || more) (seat_in old.share p) (seat_in new.share p)
  mine true e d f =
      let same = before.later p here (omega arith) (inr e) in
      serves_one (screen_of old.share) (has_bit left p) more (wants || more) (seat_in old.share p) (seat_in new.share p)
      (λ clear. absurd (both_ways (has_bit left p) clear e)) (or_second wants more)
      (rw (sym before.screen.screen, sym same) one.seat)
  mine false e true f =
      let still : seat_in new.share p ≡ seat_in mid.share p =
      subst (λ (b : Bool). TriesOne (screen_of mid.share) b more (seat_in mid.share p)
      (seat_in new.share p)) e one.seat in
      Tried Composed (subst
      (λ (s : Option ShareSeat). ComposesIn (screen_of old.share) Composed (seat_in old.share p) s)
      (sym still) (before.given_to p here (omega arith) f e))
  mine false e false f =
      let same = before.later p here (omega arith) (inl f) in
      let still : seat_in new.share p ≡ seat_in mid.share p =
      subst (λ (b : Bool). TriesOne (screen_of mid.share) b more (seat_in mid.share p)
      (seat_in new.share p)) e one.seat in
      Rested (rests p f) (still ∙ same)

  served : (k : ℕ) → k < 8 → k < p + 1 →
      Serves (screen_of old.share) (wants || more) (seat_in old.share k) (seat_in new.share k)
  served k low less_than = elim (eqb_tells k p) [
    | inl same ↦
        subst (λ (m : ℕ). Serves (screen_of old.share) (wants || more) (seat_in old.share m) (seat_in new.share m))
        (sym same.1) (mine (has_bit left p) refl (has_bit due p) refl)
    | inr other ↦
        let early = sooner k less_than other.1 in
        subst (λ (s : Option ShareSeat). Serves (screen_of old.share) (wants || more) (seat_in old.share k) s)
        (sym (one.seats k other.0 (not_given k low (before.gone k low early))))
        (serves_more (screen_of old.share) wants (wants || more) _ _ (or_first wants more) (before.seats k low early))
  ]

  gone_so : (k : ℕ) → k < 8 → k < p + 1 → has_bit less k ≡ false
  gone_so k low less_than = less_are k low
      ∙ first_false (has_bit others k) (not (has_bit given k)) (others_are k low ∙ elim (eqb_tells k p) [
        | inl same ↦ second_false (has_bit left k) (not (nat_eq k p)) (ap not same.0)
        | inr other ↦ first_false (has_bit left k) (not (nat_eq k p))
            (before.gone k low (sooner k less_than other.1))
      ])

  some_so : (k : ℕ) → k < 8 → has_bit less k ≡ true → has_bit due k ≡ true
  some_so k low e =
      let in_others = first_of (has_bit others k) (not (has_bit given k)) (sym (less_are k low) ∙ e) in
      before.some k low (first_of (has_bit left k) (not (nat_eq k p)) (sym (others_are k low) ∙ in_others))

  not_left : (k : ℕ) → k < 8 → has_bit due k ≡ false → has_bit left k ≡ false
  not_left k low clear = by (has_bit left k) refl
    where
      by : (b : Bool) → has_bit left k ≡ b → has_bit left k ≡ false
      by true e = absurd (both_ways (has_bit due k) clear (before.some k low e))
      by false e = e

  -- a seat that comes later is as it was, or was given an update
  later_so : (k : ℕ) → k < 8 → p + 1 ≤ k →
      (has_bit due k ≡ false) ⊎ (has_bit less k ≡ true) → seat_in new.share k ≡ seat_in old.share k
  later_so k low more_than why = elim why [
    | inl clear ↦
        one.seats k (differs k p (not_later k more_than)) (not_given k low (not_left k low clear))
        ∙ before.later k low (omega (arith, more_than)) (inl clear)
    | inr still ↦
        let both = sym (less_are k low) ∙ still in
        let in_others = first_of (has_bit others k) (not (has_bit given k)) both in
        let kept = first_of (has_bit left k) (not (nat_eq k p)) (sym (others_are k low) ∙ in_others) in
        one.seats k (differs k p (not_later k more_than))
        (not_true (has_bit given k) (second_of (has_bit others k) (not (has_bit given k)) both))
        ∙ before.later k low (omega (arith, more_than)) (inr kept)
  ]

  given_so : (k : ℕ) → k < 8 → p + 1 ≤ k → has_bit due k ≡ true → has_bit less k ≡ false →
      ComposesIn (screen_of old.share) Composed (seat_in old.share k) (seat_in new.share k)
  given_so k low more_than is_due gone = by (has_bit left k) refl (has_bit given k) refl
    where
      by : (b : Bool) → has_bit left k ≡ b → (g : Bool) → has_bit given k ≡ g →
          ComposesIn (screen_of old.share) Composed (seat_in old.share k) (seat_in new.share k)
      by false e g f =
          subst (λ (s : Option ShareSeat). ComposesIn (screen_of old.share) Composed (seat_in old.share k) s)
          (sym (one.seats k (differs k p (not_later k more_than)) (not_given k low e)))
          (before.given_to k low (omega (arith, more_than)) is_due e)
      by true e true f =
          let early : seat_in mid.share k ≡ seat_in old.share k =
          before.later k low (omega (arith, more_than)) (inr e) in
          subst (λ (s : Option ShareSeat). ComposesIn (screen_of old.share) Composed s (seat_in new.share k)) early
          (rw (sym before.screen.screen) (one.given_to k f).sent)
      by true e false f = absurd (both_ways (has_bit less k) gone (less_are k low
          ∙ (rw (others_are k low, e, differs k p (not_later k more_than), f) refl)))

  still : KeepsScreen old.share new.share × KeepsBeside old new
  still = both_stay old mid new before.screen before.beside one.screen one.beside

  pub shares_next : SharesUpTo (p + 1) old due less (wants || more) new
  shares_next = record {
    seats = served;
    gone = gone_so;
    some = some_so;
    given_to = given_so;
    later = later_so;
    screen = still.0;
    beside = still.1;
  }

-- all are served
pub shares_done : (old : Desk) (due left : ℕ) (wants : Bool) (new : Desk) → SharesUpTo 8 old due left wants new →
    ComposesAll old wants new
shares_done old due left wants new all = record {
  seats = λ k low. all.seats k low low;
  later = λ k past. get_or_past new.share.seats k None (omega (arith, past, new.share.eight))
      ∙ sym (get_or_past old.share.seats k None (omega (arith, past, old.share.eight)));
  screen = all.screen;
  beside = all.beside;
}
