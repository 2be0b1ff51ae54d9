-- What events say of each door.
use Rattle.std.proofs.Common.{◌≡◌, ◌≢◌, ℕ, ◌+◌, ◌==◌, List, [], ◌∷◌, ◌++◌, if◌then◌else◌}
use Rattle.std.proofs.Common.{refl, sym, ap, ◌∙◌, append_assoc, append-nil, subst, arith, inl, inr}
use Rattle.std.proofs.lemmas.Bool.Decides.{eqb_tells}
use Rattle.rfb_session.specs.doors.Events.{Event, Received, Ended, Failed, Wrote, Stepping, Runs}
use Rattle.rfb_session.specs.doors.Events.{Brings, Nothing, Then, IsQuiet, came, left, ends, faults}
use Rattle.rfb_session.specs.doors.Events.{came_by, left_by}

-- ---- of a door and itself, and of two doors

pub if_same : {X : Type 0} (d : ℕ) (a b : X) → (if d == d then a else b) ≡ a
if_same d a b = elim (eqb_tells d d) [
  | inl same ↦ rw (same.0) refl
  | inr other ↦ absurd (other.1 refl)
]

pub if_other : {X : Type 0} (d door : ℕ) (a b : X) → d ≢ door → (if d == door then a else b) ≡ b
if_other d door a b apart = elim (eqb_tells d door) [
  | inl same ↦ absurd (apart same.1)
  | inr other ↦ rw (other.0) refl
]

-- ---- events one after the other

pub came-append : (d : ℕ) (xs ys : List Event) → came d (xs ++ ys) ≡ came d xs ++ came d ys
came-append d [] ys = refl
came-append d (x ∷ xs) ys =
    ap (λ (l : List ℕ). came_by d x ++ l) (came-append d xs ys)
    ∙ sym (append_assoc (came_by d x) (came d xs) (came d ys))

pub left-append : (d : ℕ) (xs ys : List Event) → left d (xs ++ ys) ≡ left d xs ++ left d ys
left-append d [] ys = refl
left-append d (x ∷ xs) ys =
    ap (λ (l : List ℕ). left_by d x ++ l) (left-append d xs ys)
    ∙ sym (append_assoc (left_by d x) (left d xs) (left d ys))

pub ends-append : (d : ℕ) (xs ys : List Event) → ends d (xs ++ ys) ≡ ends d xs + ends d ys
ends-append d [] ys = omega arith
ends-append d (x ∷ xs) ys = omega (arith, ends-append d xs ys)

pub faults-append : (d : ℕ) (xs ys : List Event) → faults d (xs ++ ys) ≡ faults d xs + faults d ys
faults-append d [] ys = omega arith
faults-append d (x ∷ xs) ys = omega (arith, faults-append d xs ys)

pub quiet_none : (d : ℕ) → IsQuiet d []
quiet_none d = record { none_came = refl; none_left = refl; no_end = refl; no_fault = refl }

pub quiet_both : (d : ℕ) (xs ys : List Event) → IsQuiet d xs → IsQuiet d ys → IsQuiet d (xs ++ ys)
quiet_both d xs ys one two = record {
  none_came = came-append d xs ys ∙ ap (λ (l : List ℕ). l ++ came d ys) one.none_came ∙ two.none_came;
  none_left = left-append d xs ys ∙ ap (λ (l : List ℕ). l ++ left d ys) one.none_left ∙ two.none_left;
  no_end = omega (arith, ends-append d xs ys, one.no_end, two.no_end);
  no_fault = omega (arith, faults-append d xs ys, one.no_fault, two.no_fault);
}

module _ {C : Type 0} (steps : Stepping C) where
  pub runs_then : (a b c : C) (xs ys : List Event) → Runs steps a xs b → Runs steps b ys c →
      Runs steps a (xs ++ ys) c
  runs_then a b c [] ys one two = subst (λ (s : C). Runs steps s ys c) one two
  runs_then a b c (x ∷ xs) ys one two = (one.0, one.1, runs_then one.0 b c xs ys one.2 two)

-- ---- events of one door

-- all that they report is of that door: these bytes came, these left, and so many ends and failures
pub record Tells (door : ℕ) (events : List Event) (bytes gone : List ℕ) (ended failed : ℕ)
    : Type 0 where
  pub came_is : came door events ≡ bytes
  pub left_is : left door events ≡ gone
  pub ends_are : ends door events ≡ ended
  pub faults_are : faults door events ≡ failed
  pub others : (d : ℕ) → d ≢ door → IsQuiet d events

pub nothing_told : (door : ℕ) → Tells door [] [] [] 0 0
nothing_told door = record {
  came_is = refl;
  left_is = refl;
  ends_are = refl;
  faults_are = refl;
  others = λ d apart. quiet_none d;
}

pub end_told : (door : ℕ) → Tells door (Ended door ∷ []) [] [] 1 0
end_told door = record {
  came_is = refl;
  left_is = refl;
  ends_are = ap (λ (n : ℕ). n + 0) (if_same door 1 0);
  faults_are = refl;
  others = λ d apart. record {
    none_came = refl;
    none_left = refl;
    no_end = ap (λ (n : ℕ). n + 0) (if_other d door 1 0 apart);
    no_fault = refl;
  };
}

pub fault_told : (door : ℕ) → Tells door (Failed door ∷ []) [] [] 0 1
fault_told door = record {
  came_is = refl;
  left_is = refl;
  ends_are = refl;
  faults_are = ap (λ (n : ℕ). n + 0) (if_same door 1 0);
  others = λ d apart. record {
    none_came = refl;
    none_left = refl;
    no_end = refl;
    no_fault = ap (λ (n : ℕ). n + 0) (if_other d door 1 0 apart);
  };
}

pub bytes_left : (door : ℕ) (bytes : List ℕ) → Tells door (Wrote door bytes ∷ []) [] bytes 0 0
bytes_left door bytes = record {
  came_is = refl;
  left_is = ap (λ (l : List ℕ). l ++ []) (if_same door bytes []) ∙ append-nil bytes;
  ends_are = refl;
  faults_are = refl;
  others = λ d apart. record {
    none_came = refl;
    none_left = ap (λ (l : List ℕ). l ++ []) (if_other d door bytes [] apart);
    no_end = refl;
    no_fault = refl;
  };
}

bytes_came : (door : ℕ) (part bytes : List ℕ) (events : List Event) → Tells door events bytes [] 0 0 →
    Tells door (Received door part ∷ events) (part ++ bytes) [] 0 0
bytes_came door part bytes events told = record {
  came_is = ap (λ (l : List ℕ). l ++ came door events) (if_same door part [])
      ∙ ap (λ (l : List ℕ). part ++ l) told.came_is;
  left_is = told.left_is;
  ends_are = omega (arith, told.ends_are);
  faults_are = omega (arith, told.faults_are);
  others = λ d apart.
      let rest = told.others d apart in
      record {
        none_came = ap (λ (l : List ℕ). l ++ came d events) (if_other d door part [] apart)
            ∙ rest.none_came;
        none_left = rest.none_left;
        no_end = omega (arith, rest.no_end);
        no_fault = omega (arith, rest.no_fault);
      };
}

-- bytes that were brought part by part came, and nothing else was told
pub record IsBrought {C : Type 0} (steps : Stepping C) (door : ℕ) (old : C) (bytes : List ℕ)
    (new : C) : Type 0 where
  pub events : List Event
  pub runs : Runs steps old events new
  pub tells : Tells door events bytes [] 0 0

module _ {C : Type 0} (steps : Stepping C) (door : ℕ) where
  pub brought : (old : C) (bytes : List ℕ) (new : C) → Brings steps door old bytes new →
      IsBrought steps door old bytes new
  brought old bytes new Nothing = record { events = []; runs = refl; tells = nothing_told door }
  brought old bytes new (Then {mid = mid} {part = part} {bytes = more} step rest) =
      let after = brought mid more new rest in
      record {
        events = Received door part ∷ after.events;
        runs = (mid, step, after.runs);
        tells = bytes_came door part more after.events after.tells;
      }

  -- one part more
  pub brings_more : (old mid new : C) (front part : List ℕ) → Brings steps door old front mid →
      steps mid (Received door part) new → Brings steps door old (front ++ part) new
  brings_more old mid new front part Nothing step =
      subst (λ (l : List ℕ). Brings steps door old l new) (append-nil part) (Then step Nothing)
  brings_more old mid new front part (Then {mid = one} {part = first} {bytes = more} was rest) step =
      subst (λ (l : List ℕ). Brings steps door old l new) (sym (append_assoc first more part))
      (Then was (brings_more one mid new more part rest step))
