-- What a loop did at all doors.
use Rattle.std.proofs.Common.{◌≡◌, ◌≢◌, ℕ, ◌+◌, ◌<◌, suc, zero, Bool, List, [], ◌∷◌, ◌++◌}
use Rattle.std.proofs.Common.{Option, Some, None, length, get_or, set, ◌⊎◌}
use Rattle.std.proofs.Common.{refl, sym, ap, ◌∙◌, subst, arith, inl, inr}
use Rattle.std.specs.Prelude.{slice_get}
use Rattle.std.proofs.lemmas.Bool.Decides.{eqb_tells}
use Rattle.std.proofs.lemmas.List.{length-set, get_or-set_same}
use Rattle.std.proofs.lemmas.Option.{slice_get-get_or}
use Rattle.std.specs.Io.KnownBytes.{Appends, Consumes}
use Rattle.std.proofs.KnownBytes.{Consumes-nil, Consumes-trans, Appends-nil, Appends-trans}
use Rattle.rfb_session.specs.doors.Events.{Event, Turned, Stepping, Runs, IsQuiet, came, left, ends, faults}
use Rattle.rfb_session.specs.doors.Devices.{HasEnded, known_of, known_at, number_of, number_at, flag_of, flag_at}
use Rattle.rfb_session.specs.doors.Turns.{Moves, MovesIn, MovesOut, Turns, TurnsIn, TurnsOnce}
use Rattle.rfb_session.specs.doors.Turns.{TurnsOut}
use Rattle.rfb_session.proofs.DoorEventLemmas.{came-append, left-append, ends-append, faults-append}
use Rattle.rfb_session.proofs.DoorEventLemmas.{quiet_none, quiet_both, runs_then}

-- ---- what is at a number after a write

pub slice_get-set_same : {X : Type 0} (xs : List X) (i : ℕ) (y : X) → i < length xs →
    slice_get (set xs i y) i ≡ Some y
slice_get-set_same xs i y within =
    slice_get-get_or (set xs i y) i y (omega (arith, length-set xs i y)) ∙ ap Some (get_or-set_same xs i y y within)

pub slice_get-set_other : {X : Type 0} (xs : List X) (i j : ℕ) (y : X) → j ≢ i →
    slice_get (set xs i y) j ≡ slice_get xs j
slice_get-set_other [] i j y apart = refl
slice_get-set_other (x ∷ xs) zero zero y apart = absurd (apart refl)
slice_get-set_other (x ∷ xs) zero (suc j) y apart = refl
slice_get-set_other (x ∷ xs) (suc i) zero y apart = refl
slice_get-set_other (x ∷ xs) (suc i) (suc j) y apart =
    slice_get-set_other xs i j y (λ same. apart (ap suc same))

-- ---- ends

pub ended_first : (a b c : Option (List ℕ)) (xs ys : List ℕ) → Consumes a b xs → HasEnded a b →
    Consumes b c ys → HasEnded a c
ended_first None b c xs ys one ended two = tt
ended_first (Some x) None c xs ys one ended two = absurd one
ended_first (Some x) (Some y) None xs ys one ended two = absurd two
ended_first (Some x) (Some y) (Some z) xs [] one ended two = sym two ∙ ended
ended_first (Some x) (Some y) (Some z) xs (w ∷ ys) one ended two =
    let both : [] ≡ (w ∷ ys) ++ z = sym ended ∙ two in cc

pub ended_then : (a b c : Option (List ℕ)) (xs : List ℕ) → Consumes a b xs → HasEnded b c → HasEnded a c
ended_then None b c xs one ended = tt
ended_then (Some x) None c xs one ended = absurd one
ended_then (Some x) (Some y) c xs one ended = ended

pub some_of : (m n : ℕ) → 0 < m + n → (0 < m) ⊎ (0 < n)
some_of zero n some = inr (omega (arith, some))
some_of (suc m) n some = inl (omega arith)

-- ---- turns

-- what is so of the bytes that passed at one door, and of no bytes, is so at each door
passed_at : {D : Type 0} (known : D → Option (List ℕ))
    (R : Option (List ℕ) → Option (List ℕ) → List ℕ → Type 0) (bytes : ℕ → List ℕ) (doors : List D)
    (door : ℕ) (any device' : D) → door < length doors →
    R (known (get_or doors door any)) (known device') (bytes door) → ((d : ℕ) → d ≢ door → bytes d ≡ []) →
    ((o : Option (List ℕ)) → R o o []) → (d : ℕ) →
    R (known_at known doors d) (known_at known (set doors door device') d) (bytes d)
passed_at {D} known R bytes doors door any device' within here none still d =
    let was = slice_get-get_or doors door any within in
    let is = slice_get-set_same doors door device' within in
    elim (eqb_tells d door) [
      | inl same ↦ subst (λ (n : ℕ).
          R (known_at known doors n) (known_at known (set doors door device') n) (bytes n)) (sym same.1)
          (rw (was, is) here)
      | inr other ↦ subst (λ (o : Option D). R (known_at known doors d) (known_of known o) (bytes d))
          (sym (slice_get-set_other doors door d device' other.1))
          (subst (λ (l : List ℕ). R (known_at known doors d) (known_at known doors d) l) (sym (none d other.1))
          (still (known_at known doors d)))
    ]

module _ {C D : Type 0} {steps : Stepping C} {unread written : D → Option (List ℕ)} {failed : D → ℕ}
    {stands : D → Bool} where
  quiet_turns : (old new : C) (events : List Event) (doors : List D) → Runs steps old events new →
      ((d : ℕ) → IsQuiet d events) → Turns steps unread written failed stands old new doors doors
  quiet_turns old new events doors runs quiet = record {
    events = events;
    runs = runs;
    reads = λ d. subst (λ (l : List ℕ). Consumes (known_at unread doors d) (known_at unread doors d) l)
        (sym (quiet d).none_came) (Consumes-nil (known_at unread doors d));
    writes = λ d. subst (λ (l : List ℕ). Appends (known_at written doors d) (known_at written doors d) l)
        (sym (quiet d).none_left) (Appends-nil (known_at written doors d));
    ended = λ d some. absurd (omega (arith, some, (quiet d).no_end));
    fails = λ d. omega (arith, (quiet d).no_fault);
    stays = λ d. refl;
    beyond = λ d past. quiet d;
    many = refl;
  }

  -- nothing was told
  pub turns_none : {core : C} {doors : List D} → Turns steps unread written failed stands core core doors doors
  turns_none {core} {doors} = quiet_turns core core [] doors refl (λ d. quiet_none d)

  -- it was told the time
  turns_turned : (old new : C) (doors : List D) (now : ℕ) → steps old (Turned now) new →
      Turns steps unread written failed stands old new doors doors
  turns_turned old new doors now step =
      quiet_turns old new (Turned now ∷ []) doors (new, step, refl)
      (λ d. record { none_came = refl; none_left = refl; no_end = refl; no_fault = refl })

  -- turns after turns
  pub turns_then : {a b c : C} {xs ys zs : List D} → Turns steps unread written failed stands a b xs ys →
      Turns steps unread written failed stands b c ys zs → Turns steps unread written failed stands a c xs zs
  turns_then {a} {b} {c} {xs} {ys} {zs} one two = record {
    events = one.events ++ two.events;
    runs = runs_then steps a b c one.events two.events one.runs two.runs;
    reads = λ d.
        rw (came-append d one.events two.events)
        (Consumes-trans (known_at unread xs d) (known_at unread ys d) (known_at unread zs d) (came d one.events)
        (came d two.events) (one.reads d) (two.reads d));
    writes = λ d.
        rw (left-append d one.events two.events)
        (Appends-trans (known_at written xs d) (known_at written ys d) (known_at written zs d) (left d one.events)
        (left d two.events) (one.writes d) (two.writes d));
    ended = λ d some. ended_by d (subst (λ (n : ℕ). 0 < n) (ends-append d one.events two.events) some);
    fails = λ d. omega (arith, one.fails d, two.fails d, faults-append d one.events two.events);
    stays = λ d. two.stays d ∙ one.stays d;
    beyond = λ d past.
        quiet_both d one.events two.events (one.beyond d past)
        (two.beyond d (omega (arith, past, one.many)));
    many = two.many ∙ one.many;
  }
    where
      ended_by : (d : ℕ) → 0 < ends d one.events + ends d two.events →
          HasEnded (known_at unread xs d) (known_at unread zs d)
      ended_by d some =
          let u = known_at unread xs d in
          let v = known_at unread ys d in
          let w = known_at unread zs d in
          elim (some_of (ends d one.events) (ends d two.events) some) [
            | inl first ↦ ended_first u v w (came d one.events) (came d two.events) (one.reads d)
                (one.ended d first) (two.reads d)
            | inr second ↦ ended_then u v w (came d one.events) (one.reads d) (two.ended d second)
          ]

  pub turns_in_none : {core : C} {doors : List D} →
      TurnsIn steps unread written failed stands core core doors doors
  unfolding turns_none quiet_turns
  turns_in_none = (turns_none, λ d. refl)

  pub turns_out_none : {core : C} {doors : List D} →
      TurnsOut steps unread written failed stands core core doors doors
  unfolding turns_none quiet_turns
  turns_out_none = (turns_none, λ d. refl)

  -- the same while nothing leaves, and while nothing comes
  pub turns_in_then : {a b c : C} {xs ys zs : List D} → TurnsIn steps unread written failed stands a b xs ys →
      TurnsIn steps unread written failed stands b c ys zs → TurnsIn steps unread written failed stands a c xs zs
  unfolding turns_then
  turns_in_then one two = (
    turns_then one.0 two.0,
    λ d. left-append d one.0.events two.0.events
        ∙ ap (λ (l : List ℕ). l ++ left d two.0.events) (one.1 d) ∙ two.1 d,
  )

  pub turns_out_then : {a b c : C} {xs ys zs : List D} → TurnsOut steps unread written failed stands a b xs ys →
      TurnsOut steps unread written failed stands b c ys zs → TurnsOut steps unread written failed stands a c xs zs
  unfolding turns_then
  turns_out_then one two = (
    turns_then one.0 two.0,
    λ d. came-append d one.0.events two.0.events
        ∙ ap (λ (l : List ℕ). l ++ came d two.0.events) (one.1 d) ∙ two.1 d,
  )

  -- a whole turn
  pub turns_once : {due : C → Option ℕ} {next : Option ℕ} {old new : C} {doors doors' : List D} →
      TurnsOnce steps due unread written failed stands next old new doors doors' →
      Turns steps unread written failed stands old new doors doors'
  turns_once once =
      turns_then once.hears.0
      (turns_then (turns_turned once.heard once.turned once.mid once.now once.turns) once.tells.0)

  -- what was done at one of them
  pub turns_at : {old new : C} {doors : List D} (door : ℕ) (any : D) {device' : D} → door < length doors →
      Moves steps unread written failed stands door old new (get_or doors door any) device' →
      Turns steps unread written failed stands old new doors (set doors door device')
  turns_at {old} {new} {doors} door any {device'} within moves = record {
    events = moves.events;
    runs = moves.runs;
    reads = passed_at unread (λ a b l. Consumes a b l) (λ d. came d moves.events) doors door any device' within
        moves.reads (λ d other. (moves.others d other).none_came) Consumes-nil;
    writes = passed_at written (λ a b l. Appends a b l) (λ d. left d moves.events) doors door any device' within
        moves.writes (λ d other. (moves.others d other).none_left) Appends-nil;
    ended = λ d. elim (eqb_tells d door) [
      | inl same ↦ subst (λ (n : ℕ). 0 < ends n moves.events → HasEnded (known_at unread doors n)
          (known_at unread (set doors door device') n)) (sym same.1) (rw (was, is) moves.ended)
      | inr other ↦ λ some. absurd (omega (arith, some, (moves.others d other.1).no_end))
    ];
    fails = λ d. elim (eqb_tells d door) [
      | inl same ↦ subst (λ (n : ℕ). number_at failed (set doors door device') n ≡ number_at failed doors n
          + faults n moves.events) (sym same.1) (rw (was, is) moves.fails)
      | inr other ↦ subst (λ (o : Option D). number_of failed o ≡ number_at failed doors d
          + faults d moves.events) (sym (slice_get-set_other doors door d device' other.1))
          (omega (arith, (moves.others d other.1).no_fault))
    ];
    stays = λ d. elim (eqb_tells d door) [
      | inl same ↦ subst (λ (n : ℕ). flag_at stands (set doors door device') n ≡ flag_at stands doors n)
          (sym same.1) (rw (was, is) moves.stays)
      | inr other ↦ ap (flag_of stands) (slice_get-set_other doors door d device' other.1)
    ];
    beyond = λ d past. moves.others d (λ same. absurd (omega (arith, same, past, within)));
    many = length-set doors door device';
  }
    where
      was : slice_get doors door ≡ Some (get_or doors door any)
      was = slice_get-get_or doors door any within

      is : slice_get (set doors door device') door ≡ Some device'
      is = slice_get-set_same doors door device' within

  pub turns_in_at : {old new : C} {doors : List D} (door : ℕ) (any : D) {device' : D} → door < length doors →
      MovesIn steps unread written failed stands door old new (get_or doors door any) device' →
      TurnsIn steps unread written failed stands old new doors (set doors door device')
  unfolding turns_at
  turns_in_at door any within moves = (turns_at door any within moves.0, moves.1)

  pub turns_out_at : {old new : C} {doors : List D} (door : ℕ) (any : D) {device' : D} → door < length doors →
      MovesOut steps unread written failed stands door old new (get_or doors door any) device' →
      TurnsOut steps unread written failed stands old new doors (set doors door device')
  unfolding turns_at
  turns_out_at door any within moves = (turns_at door any within moves.0, moves.1)
