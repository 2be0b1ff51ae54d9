-- Slots as a list, whoever sits in them.
use Rattle.std.proofs.Common.{◌≡◌, ◌≢◌, ◌<◌, ◌≤◌, ◌+◌, ◌^◌, ◌⊎◌, ◌&&◌, ◌||◌, ℕ, Bool, true, false}
use Rattle.std.proofs.Common.{not, nat_eq, nat_lt, List, length, set, Option, Some, None, inl, inr}
use Rattle.std.proofs.Common.{refl, sym, ap, ◌∙◌, subst, arith, All, slice_index_or}
use Rattle.std.proofs.Common.{get_or-set_same, get_or-set_other, bit_or}
use Rattle.std.specs.Option.{ForSome}
use Rattle.std.proofs.lemmas.Bool.{cases_lt, cases_eq}
use Rattle.std.proofs.lemmas.Bool.Decides.{nat_tests}
use Rattle.std.proofs.lemmas.Nat.Bits.{bit_at_or, bit_at-lt, bit_at-pow_same, bit_at-pow_other}
use Rattle.std.proofs.lemmas.Nat.Bits.{bit_at-zero}
use Rattle.std.proofs.lemmas.List.{get_or_past, get_or_default, length-set, set-get_or}
use Rattle.rfb_picture.specs.Places.{has_bit}
use Rattle.rfb_session.specs.Slots.{seat_at, is_taken, OnSlot, StaysUnless}

pub apart : (k i : ℕ) → nat_eq k i ≡ false → k ≢ i
apart k i differ = grind (arith, nat_tests)

pub other : (k i : ℕ) → k ≢ i → nat_eq k i ≡ false
other k i differ = grind (arith, nat_tests)

pub not_clear : (b : Bool) → b ≡ true → b ≡ false → ⊥
not_clear b set clear = cc

-- ---- bits

pub has_bit-or : (a b i : ℕ) → has_bit (bit_or a b) i ≡ (has_bit a i || has_bit b i)
has_bit-or a b i = rw bit_at_or (grind (arith, nat_tests, bit_at-lt a i, bit_at-lt b i))

pub no_bit : (j : ℕ) → has_bit 0 j ≡ false
no_bit j = rw (bit_at-zero j) refl

-- the word whose one bit is the k-th
pub one_bit : (k j : ℕ) → has_bit (2 ^ k) j ≡ nat_eq j k
one_bit k j = by (cases_eq j k)
  where
    by : ((j ≡ k) ⊎ (j ≢ k)) → has_bit (2 ^ k) j ≡ nat_eq j k
    by (inl e) = rw (e, bit_at-pow_same k) (grind (arith, nat_tests))
    by (inr differ) = rw (bit_at-pow_other k j differ) (grind (arith, nat_tests))

module _ {X : Type 0} where
  pub seat_set_same : (slots : List (Option X)) (i : ℕ) (x : Option X) → i < length slots →
      seat_at i (set slots i x) ≡ x
  seat_set_same slots i x within = get_or-set_same slots i x None within

  pub seat_set_other : (slots : List (Option X)) (i k : ℕ) (x : Option X) →
      nat_eq k i ≡ false → seat_at k (set slots i x) ≡ seat_at k slots
  seat_set_other slots i k x differ = get_or-set_other slots i k x None (apart k i differ)

  pub none_past : (slots : List (Option X)) (k : ℕ) → length slots ≤ k → seat_at k slots ≡ None
  none_past slots k past = get_or_past slots k None past

  pub one_seat : (o : Option X) (a b : X) → o ≡ Some a → o ≡ Some b → a ≡ b
  one_seat o a b one two = cc

  pub not_both : (o : Option X) (a : X) → o ≡ Some a → o ≡ None → ⊥
  not_both o a some none = cc

  -- a seat is within the list
  pub below : (slots : List (Option X)) (k : ℕ) (seat : X) → seat_at k slots ≡ Some seat →
      k < length slots
  below slots k seat is = by (cases_lt k (length slots))
    where
      by : ((k < length slots) ⊎ (length slots ≤ k)) → k < length slots
      by (inl lt) = lt
      by (inr past) = absurd (not_both (seat_at k slots) seat is (none_past slots k past))

  -- what holds of each seat
  pub each_seat : (P : X → Type 0) (slots : List (Option X)) →
      All (λ slot. ForSome slot P) slots → (k : ℕ) (seat : X) → seat_at k slots ≡ Some seat →
      P seat
  each_seat P slots all k seat is = all k None (below slots k seat is) seat is

  pub all_seats : (P : X → Type 0) (slots : List (Option X)) →
      ((k : ℕ) (seat : X) → seat_at k slots ≡ Some seat → P seat) →
      All (λ slot. ForSome slot P) slots
  all_seats P slots each = λ k d within seat is.
      each k seat (get_or_default slots k None d within ∙ is)

  -- ---- one seat after another

  pub record Halfway (R : X → X → Type 0) (first now : List (Option X)) (i : ℕ)
      : Type 0 where
    pub size : length now ≡ length first
    pub done : (k : ℕ) → k < i → OnSlot R (seat_at k first) (seat_at k now)
    pub left : (k : ℕ) → i ≤ k → seat_at k now ≡ seat_at k first

  pub half_first : (R : X → X → Type 0) (first : List (Option X)) → Halfway R first first 0
  half_first R first = record {
    size = refl;
    done = λ k none. absurd (omega (arith, none));
    left = λ k all. refl;
  }

  pub half_more : (R : X → X → Type 0) (first now : List (Option X)) (i : ℕ)
      (x : Option X) → i < length now → Halfway R first now i → OnSlot R (seat_at i now) x →
      Halfway R first (set now i x) (i + 1)
  half_more R first now i x within half one = record {
    size = length-set now i x ∙ half.size;
    done = λ k lt. by k (cases_lt k i) lt;
    left = λ k le. seat_set_other now i k x (other k i (λ e. absurd (omega (arith, e, le))))
        ∙ half.left k (omega arith);
  }
    where
      by : (k : ℕ) → ((k < i) ⊎ (i ≤ k)) → k < i + 1 →
          OnSlot R (seat_at k first) (seat_at k (set now i x))
      by k (inl lt) bound =
          subst (λ (o : Option X). OnSlot R (seat_at k first) o)
          (sym (seat_set_other now i k x (other k i (λ e. absurd (omega (arith, e, lt))))))
          (half.done k lt)
      by k (inr ge) bound =
          let e : k ≡ i = omega arith in
          subst (λ (j : ℕ). OnSlot R (seat_at j first) (seat_at j (set now i x))) (sym e)
          (subst (λ (o : Option X). OnSlot R (seat_at i first) o)
          (sym (seat_set_same now i x within))
          (subst (λ (o : Option X). OnSlot R o x) (half.left i (omega arith)) one))

  pub half_all : (R : X → X → Type 0) (first now : List (Option X)) (i : ℕ) →
      length first ≤ i → Halfway R first now i → (k : ℕ) →
      OnSlot R (seat_at k first) (seat_at k now)
  half_all R first now i all half k = by (cases_lt k i)
    where
      by : ((k < i) ⊎ (i ≤ k)) → OnSlot R (seat_at k first) (seat_at k now)
      by (inl lt) = half.done k lt
      by (inr past) =
          let size = half.size in
          rw (none_past first k (omega arith), none_past now k (omega (arith, size))) tt

  -- what became of a seat
  pub on_seat : (R : X → X → Type 0) (a : Option X) (b : Option X) (new : X) →
      OnSlot R a b → b ≡ Some new → (old : X) × (a ≡ Some old) × R old new
  on_seat R None None new is some = absurd (none_some new some)
    where
      none_some : (new : X) → None ≡ Some new → ⊥
      none_some new e = cc
  on_seat R None (Some b) new is some = absurd is
  on_seat R (Some a) None new is some = absurd is
  on_seat R (Some a) (Some b) new is some =
      (a, refl, subst (λ (s : X). R a s) (one some) is)
    where
      one : Some b ≡ Some new → b ≡ new
      one e = cc

  -- and what a seat became
  slot_back : (R : X → X → Type 0) (a b : Option X) → OnSlot R a b → OnSlot (λ x y. R y x) b a
  slot_back R None None is = tt
  slot_back R None (Some b) is = is
  slot_back R (Some a) None is = is
  slot_back R (Some a) (Some b) is = is

  pub became : (R : X → X → Type 0) (a b : Option X) (old : X) →
      OnSlot R a b → a ≡ Some old → (new : X) × (b ≡ Some new) × R old new
  became R a b old is there = on_seat (λ x y. R y x) b a old (slot_back R a b is) there

  -- ---- slots emptied one after another

  pub record Emptying (own : ℕ) (first now : List (Option X)) (i ended : ℕ) : Type 0 where
    pub size : length now ≡ length first
    pub own_is : seat_at own now ≡ seat_at own first
    pub done : (j : ℕ) → j < i → nat_eq j own ≡ false → seat_at j now ≡ None
    pub left : (j : ℕ) → i ≤ j → seat_at j now ≡ seat_at j first
    pub told : (j : ℕ) → has_bit ended j
        ≡ (nat_lt j i && (not (nat_eq j own) && is_taken (seat_at j first)))

  pub emptying_first : (own : ℕ) (first : List (Option X)) → Emptying own first first 0 0
  emptying_first own first = record {
    size = refl;
    own_is = refl;
    done = λ j none. absurd (omega (arith, none));
    left = λ j all. refl;
    told = λ j. rw (no_bit j) (grind (arith, nat_tests));
  }

  pub emptying_more : (own : ℕ) (first now : List (Option X)) (i ended bit : ℕ) (x : Option X) →
      i < length now → Emptying own first now i ended → (i ≡ own → x ≡ seat_at i now) →
      (nat_eq i own ≡ false → x ≡ None) →
      ((j : ℕ) → has_bit bit j ≡ (nat_eq j i && (not (nat_eq i own) && is_taken (seat_at i now)))) →
      Emptying own first (set now i x) (i + 1) (bit_or ended bit)
  emptying_more own first now i ended bit x within e mine others bits = record {
    size = length-set now i x ∙ e.size;
    own_is = by_own (cases_eq own i);
    done = λ j lt differ. by_done j differ (cases_lt j i) lt;
    left = λ j le. seat_set_other now i j x (other j i (λ same. absurd (omega (arith, same, le))))
        ∙ e.left j (omega arith);
    told = λ j. has_bit-or ended bit j ∙ by_told j (cases_lt j i) (cases_eq j i);
  }
    where
      by_own : ((own ≡ i) ⊎ (own ≢ i)) → seat_at own (set now i x) ≡ seat_at own first
      by_own (inl is) =
          subst (λ (k : ℕ). seat_at k (set now i x) ≡ seat_at k first) (sym is)
          (seat_set_same now i x within ∙ mine (sym is) ∙ e.left i (omega arith))
      by_own (inr differ) = seat_set_other now i own x (other own i differ) ∙ e.own_is

      by_done : (j : ℕ) → nat_eq j own ≡ false → ((j < i) ⊎ (i ≤ j)) → j < i + 1 →
          seat_at j (set now i x) ≡ None
      by_done j differ (inl lt) bound =
          seat_set_other now i j x (other j i (λ same. absurd (omega (arith, same, lt))))
          ∙ e.done j lt differ
      by_done j differ (inr ge) bound =
          let is : j ≡ i = omega arith in
          subst (λ (k : ℕ). seat_at k (set now i x) ≡ None) (sym is)
          (seat_set_same now i x within
          ∙ others (subst (λ (k : ℕ). nat_eq k own ≡ false) is differ))

      by_told : (j : ℕ) → ((j < i) ⊎ (i ≤ j)) → ((j ≡ i) ⊎ (j ≢ i)) →
          (has_bit ended j || has_bit bit j)
          ≡ (nat_lt j (i + 1) && (not (nat_eq j own) && is_taken (seat_at j first)))
      by_told j (inl lt) same = rw (e.told j, bits j) (grind (arith, nat_tests))
      by_told j (inr ge) (inl is) =
          rw (e.told j, bits j, is, sym (e.left i (omega arith))) (grind (arith, nat_tests))
      by_told j (inr ge) (inr differ) = rw (e.told j, bits j) (grind (arith, nat_tests))

  pub emptying_all : (own : ℕ) (first now : List (Option X)) (i ended : ℕ) → length first ≤ i →
      Emptying own first now i ended → (j : ℕ) → nat_eq j own ≡ false → seat_at j now ≡ None
  emptying_all own first now i ended all e j differ = by (cases_lt j i)
    where
      by : ((j < i) ⊎ (i ≤ j)) → seat_at j now ≡ None
      by (inl lt) = e.done j lt differ
      by (inr past) = e.left j past ∙ none_past first j (omega arith)

  pub emptying_told : (own : ℕ) (first now : List (Option X)) (i ended : ℕ) → length first ≤ i →
      Emptying own first now i ended → (j : ℕ) →
      has_bit ended j ≡ (not (nat_eq j own) && is_taken (seat_at j first))
  emptying_told own first now i ended all e j = by (cases_lt j i)
    where
      by : ((j < i) ⊎ (i ≤ j)) →
          has_bit ended j ≡ (not (nat_eq j own) && is_taken (seat_at j first))
      by (inl lt) = rw (e.told j) (grind (arith, nat_tests))
      by (inr past) = rw (e.told j, none_past first j (omega arith)) (grind (arith, nat_tests))

  -- ---- what a slot has

  pub not_taken : (o : Option X) → is_taken o ≡ false → o ≡ None
  not_taken None free = refl
  not_taken (Some seat) free = absurd (apart_bool free)
    where
      apart_bool : true ≡ false → ⊥
      apart_bool e = cc

  pub taken_by : (o : Option X) → is_taken o ≡ true → (seat : X) × (o ≡ Some seat)
  taken_by None taken = absurd (apart_bool taken)
    where
      apart_bool : false ≡ true → ⊥
      apart_bool e = cc
  taken_by (Some seat) taken = (seat, refl)

  -- a slot that is read with another default
  pub at_slot : (slots : List (Option X)) (k : ℕ) (d : Option X) → k < length slots →
      slice_index_or slots k d ≡ seat_at k slots
  at_slot slots k d within = get_or_default slots k d None within

  -- ---- the slots that are reported as emptied

  -- where the client asked for the screen alone
  pub ends_sole : (slots : List (Option X)) (i ended : ℕ) (x : Option X) (sole : Bool) →
      sole ≡ true → ((j : ℕ) → has_bit ended j
      ≡ (not (nat_eq j i) && is_taken (seat_at j (set slots i x)))) → (j : ℕ) →
      has_bit ended j ≡ (sole && (not (nat_eq j i) && is_taken (seat_at j slots)))
  ends_sole slots i ended x sole asked bits j = by (nat_eq j i) refl
    where
      by : (own : Bool) → nat_eq j i ≡ own →
          has_bit ended j ≡ (sole && (not (nat_eq j i) && is_taken (seat_at j slots)))
      by true own = rw (bits j, own, asked) refl
      by false own = rw (bits j, seat_set_other slots i j x own, asked) refl

  -- where it did not
  pub ends_none : (slots : List (Option X)) (i ended : ℕ) (sole : Bool) → sole ≡ false → ended ≡ 0 →
      (j : ℕ) → has_bit ended j ≡ (sole && (not (nat_eq j i) && is_taken (seat_at j slots)))
  ends_none slots i ended sole alone none j = rw (none, no_bit j, alone) refl

  pub stays_emptied : (flag : Bool) (a b : Option X) → flag ≡ is_taken a → b ≡ None →
      StaysUnless flag a b
  stays_emptied flag a b is none = (λ set. none, λ clear. none ∙ sym (not_taken a (sym is ∙ clear)))

  -- a slot is set to what it has
  pub set_back : (slots : List (Option X)) (i : ℕ) (x : Option X) → x ≡ seat_at i slots →
      set slots i x ≡ slots
  set_back slots i x same = ap (λ (o : Option X). set slots i o) same ∙ set-get_or slots i None

  -- all others are reported as emptied
  pub flag_others : (slots : List (Option X)) (i k ended told : ℕ) (sole : Bool) → told ≡ ended →
      sole ≡ true → ((j : ℕ) → has_bit ended j
      ≡ (sole && (not (nat_eq j i) && is_taken (seat_at j slots)))) → nat_eq k i ≡ false →
      has_bit told k ≡ is_taken (seat_at k slots)
  flag_others slots i k ended told sole same asked bits differ =
      ap (λ (n : ℕ). has_bit n k) same ∙ (bits k ∙ rw (asked, differ) refl)

  -- where none is reported as emptied, a slot that is as it was stays
  pub stays_clear : (ended k : ℕ) (a b : Option X) → ended ≡ 0 → b ≡ a →
      StaysUnless (has_bit ended k) a b
  stays_clear ended k a b none same =
      let clear : has_bit ended k ≡ false = ap (λ (n : ℕ). has_bit n k) none ∙ no_bit k in
      (λ set. absurd (not_clear _ set clear), λ not_set. same)
