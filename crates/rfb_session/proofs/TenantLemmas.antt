-- What is at a door of a run whose doors open and close.
use Rattle.std.proofs.Common.{◌≡◌, ℕ, ◌<◌, Bool, true, List, [], ◌∷◌, ◌++◌, Option, Some, None}
use Rattle.std.proofs.Common.{refl, sym, ap, ◌∙◌, subst, append_assoc, arith, inl, inr, ◌⊎◌, length, set}
use Rattle.std.specs.Prelude.{slice_get}
use Rattle.std.specs.Io.KnownBytes.{Appends, Consumes}
use Rattle.std.proofs.KnownBytes.{Consumes-nil, Consumes-trans, Appends-nil, Appends-trans}
use Rattle.std.proofs.lemmas.Bool.{false≢true}
use Rattle.std.proofs.lemmas.Bool.Decides.{eqb_tells}
use Rattle.std.proofs.lemmas.Option.{slice_get_within}
use Rattle.rfb_session.specs.declared.doors.place.Place.{Place}
use Rattle.rfb_session.specs.declared.doors.place.Place.TheVariants.{Empty, Held}
use Rattle.rfb_session.specs.doors.Events.{Event, Stepping, Runs, came, left, ends}
use Rattle.rfb_session.specs.doors.Devices.{flag_of}
use Rattle.rfb_session.specs.doors.Wants.{IsOver}
use Rattle.rfb_session.specs.doors.Places.{is_held}
use Rattle.rfb_session.specs.doors.Lives.{Telling, Opening, Declining, Closes, PlaceTurns, Lives, Still, Then}
use Rattle.rfb_session.specs.doors.Lives.{OpensAt, TurnsAway}
use Rattle.rfb_session.specs.doors.Tenants.{Happening, Told, Opened, Declined, events_in, IsKept, Goes, Says}
use Rattle.rfb_session.specs.doors.Tenants.{HasStood, HasCome, HasTenants}
use Rattle.rfb_session.proofs.DoorEventLemmas.{came-append, left-append, ends-append, faults-append}
use Rattle.rfb_session.proofs.DoorTurnLemmas.{slice_get-set_same, slice_get-set_other, some_of, ended_first, ended_then}

-- ---- happenings one after the other

-- events, and nothing else
abbrev all_told : List Event → List Happening
all_told [] = []
all_told (event ∷ events) = Told event ∷ all_told events

events_in-all_told : (events : List Event) → events_in (all_told events) ≡ events
events_in-all_told [] = refl
events_in-all_told (event ∷ events) = ap (λ (l : List Event). event ∷ l) (events_in-all_told events)

events_in-append : (xs ys : List Happening) → events_in (xs ++ ys) ≡ events_in xs ++ events_in ys
events_in-append [] ys = refl
events_in-append (Told event ∷ xs) ys = ap (λ (l : List Event). event ∷ l) (events_in-append xs ys)
events_in-append (Opened door from ∷ xs) ys = events_in-append xs ys
events_in-append (Declined from ∷ xs) ys = events_in-append xs ys

kept_both : (d : ℕ) (xs ys : List Happening) → IsKept d xs → IsKept d ys → IsKept d (xs ++ ys)
kept_both d [] ys one two = two
kept_both d (Told event ∷ xs) ys one two = kept_both d xs ys one two
kept_both d (Opened door from ∷ xs) ys one two = (one.0, kept_both d xs ys one.1 two)
kept_both d (Declined from ∷ xs) ys one two = kept_both d xs ys one two

kept_told : (d : ℕ) (events : List Event) → IsKept d (all_told events)
kept_told d [] = tt
kept_told d (event ∷ events) = kept_told d events

module _ {C : Type 0} (steps : Stepping C) (opens : Opening C) (declines : Declining C) where
  goes_then : (a b c : C) (xs ys : List Happening) → Goes steps opens declines a xs b →
      Goes steps opens declines b ys c → Goes steps opens declines a (xs ++ ys) c
  goes_then a b c [] ys one two = subst (λ (s : C). Goes steps opens declines s ys c) one two
  goes_then a b c (Told event ∷ xs) ys one two = (one.0, one.1, goes_then one.0 b c xs ys one.2 two)
  goes_then a b c (Opened door from ∷ xs) ys one two = (one.0, one.1, goes_then one.0 b c xs ys one.2 two)
  goes_then a b c (Declined from ∷ xs) ys one two = (one.0, one.1, goes_then one.0 b c xs ys one.2 two)

  goes_runs : (a b : C) (events : List Event) → Runs steps a events b →
      Goes steps opens declines a (all_told events) b
  goes_runs a b [] runs = runs
  goes_runs a b (event ∷ events) runs = (runs.0, runs.1, goes_runs runs.0 b events runs.2)

-- ---- what is said of a device

module _ {C D : Type 0} (t : Telling C D) (d : ℕ) where
  says_then : (x y z : D) (one two : List Event) → Says t d x y one → Says t d y z two → Says t d x z (one ++ two)
  says_then x y z one two first second = record {
    reads = subst (λ (l : List ℕ). Consumes (t.unread x) (t.unread z) l) (sym (came-append d one two))
        (Consumes-trans (t.unread x) (t.unread y) (t.unread z) (came d one) (came d two)
        first.reads second.reads);
    writes = subst (λ (l : List ℕ). Appends (t.written x) (t.written z) l) (sym (left-append d one two))
        (Appends-trans (t.written x) (t.written y) (t.written z) (left d one) (left d two)
        first.writes second.writes);
    ended = λ some.
        elim (some_of (ends d one) (ends d two) (subst (λ (n : ℕ). 0 < n) (ends-append d one two) some)) [
          | inl before ↦ ended_first (t.unread x) (t.unread y) (t.unread z) (came d one) (came d two)
              first.reads (first.ended before) second.reads
          | inr after ↦ ended_then (t.unread x) (t.unread y) (t.unread z) (came d one) first.reads
              (second.ended after)
        ];
    fails = omega (arith, first.fails, second.fails, faults-append d one two);
  }

  -- of happenings
  says_more : (x y z : D) (one two : List Happening) → Says t d x y (events_in one) →
      Says t d y z (events_in two) → Says t d x z (events_in (one ++ two))
  says_more x y z one two first second =
      subst (λ (l : List Event). Says t d x z l) (sym (events_in-append one two))
      (says_then x y z (events_in one) (events_in two) first second)

  -- nothing has happened
  says_none : (x : D) → Says t d x x []
  says_none x = record {
    reads = Consumes-nil (t.unread x);
    writes = Appends-nil (t.written x);
    ended = λ some. absurd (omega arith);
    fails = omega arith;
  }

  -- turns were done
  says_turned : (old new : C) (y z : D) (doors doors' : List (Place D)) →
      slice_get doors d ≡ Some (Held y) → slice_get doors' d ≡ Some (Held z) →
      (turns : PlaceTurns t old new doors doors') → Says t d y z (events_in (all_told turns.events))
  says_turned old new y z doors doors' was is turns =
      subst (λ (l : List Event). Says t d y z l) (sym (events_in-all_told turns.events)) (record {
        reads = rw (was, is) at (turns.reads d);
        writes = rw (was, is) at (turns.writes d);
        ended = rw (was, is) at (turns.ended d);
        fails = rw (was, is) at (turns.fails d);
      })

-- ---- a door through the steps of a life

module _ {D : Type 0} where
  -- a device is where the flag says so
  held_of : (o : Option (Place D)) → flag_of is_held o ≡ true → (x : D) × (o ≡ Some (Held x))
  held_of None flag = absurd (false≢true flag)
  held_of (Some Empty) flag = absurd (false≢true flag)
  held_of (Some (Held x)) flag = (x, refl)

  is_held_at : (o : Option (Place D)) (x : D) → o ≡ Some (Held x) → flag_of is_held o ≡ true
  is_held_at o x is = ap (flag_of is_held) is

  empty_not : (x : D) → Some Empty ≡ Some (Held x) → ⊥
  empty_not x is = false≢true (ap (flag_of is_held) is)

module _ {C D : Type 0} (closed : C → ℕ → Bool) (waiting : C → ℕ → List ℕ) (core : C)
    (doors doors' : List (Place D)) (closes : Closes closed waiting core doors doors') (d : ℕ) (x : D)
    (is : slice_get doors' d ≡ Some (Held x)) where
  -- a door is not over where something is left after closing
  not_over : IsOver closed waiting core d → ⊥
  not_over over =
      empty_not x (sym (closes.shut d within over) ∙ is)
    where
      within : d < length doors
      within = subst (λ (n : ℕ). d < n) closes.many (slice_get_within doors' d (Held x) is)

  stood_before_closing : slice_get doors d ≡ Some (Held x)
  stood_before_closing = sym (closes.kept d not_over) ∙ is

-- ---- whole lives

module _ {C D : Type 0} (t : Telling C D) (d : ℕ) where
  -- what holds of a device that has stood there holds of it after more
  longer : (old mid new : C) (doors : List (Place D)) (happenings more : List Happening) (y z : D) →
      Goes t.steps t.opens t.declines mid more new → IsKept d more → Says t d y z (events_in more) →
      HasStood t d doors happenings y ⊎ HasCome t d old mid happenings y →
      HasStood t d doors (happenings ++ more) z ⊎ HasCome t d old new (happenings ++ more) z
  longer old mid new doors happenings more y z goes kept says was = elim was [
    | inl stood ↦ inl (record {
      device = stood.device;
      stood = stood.stood;
      kept = kept_both d happenings more stood.kept kept;
      says = says_more t d stood.device y z happenings more stood.says says;
    })
    | inr come ↦ inr (record {
      before = come.before;
      since = come.since ++ more;
      from = come.from;
      parts = ap (λ (l : List Happening). l ++ more) come.parts
          ∙ append_assoc come.before (Opened d come.from ∷ come.since) more;
      first = come.first;
      seated = come.seated;
      goes_before = come.goes_before;
      opened = come.opened;
      goes_since = goes_then t.steps t.opens t.declines come.seated mid new come.since more
          come.goes_since goes;
      device = come.device;
      came_new = come.came_new;
      kept = kept_both d come.since more come.kept kept;
      says = says_more t d come.device y z come.since more come.says says;
    })
  ]

module _ {C D : Type 0} (t : Telling C D) (old mid opened new : C)
    (doors before opening after shut : List (Place D)) (life : HasTenants t old mid doors before)
    (turns : PlaceTurns t opened new opening after) (closes : Closes t.closed t.waiting new after shut) where
  -- what is there in the end was there through the turns
  stands_before : (d : ℕ) (z : D) → slice_get shut d ≡ Some (Held z) →
      (y : D) × (slice_get opening d ≡ Some (Held y))
      × Says t d y z (events_in (all_told turns.events))
  stands_before d z is =
      let stood = stood_before_closing t.closed t.waiting new after shut closes d z is in
      let held = held_of (slice_get opening d)
      (sym (turns.stays d) ∙ is_held_at (slice_get after d) z stood) in
      (held.0, held.1, says_turned t d opened new held.0 z opening after held.1 stood turns)

  goes_turned : Goes t.steps t.opens t.declines opened (all_told turns.events) new
  goes_turned = goes_runs t.steps t.opens t.declines opened new turns.events turns.runs

  -- no door has opened: what was there is there still
  tenants_kept : (more : List Happening) → Goes t.steps t.opens t.declines mid more new →
      ((d : ℕ) → IsKept d more) → events_in more ≡ events_in (all_told turns.events) → opening ≡ before →
      HasTenants t old new doors shut
  tenants_kept more goes kept events same = record {
    happenings = life.happenings ++ more;
    goes = goes_then t.steps t.opens t.declines old mid new life.happenings more life.goes goes;
    tenants = λ d z is.
        let stands = stands_before d z is in
        longer t d old mid new doors life.happenings more stands.0 z goes (kept d)
        (subst (λ (l : List Event). Says t d stands.0 z l) (sym events) stands.2)
        (life.tenants d stands.0 (ap (λ (l : List (Place D)). slice_get l d) (sym same) ∙ stands.1));
  }

  -- none came
  tenants_not : (opened ≡ mid) × (opening ≡ before) → HasTenants t old new doors shut
  tenants_not same =
      let more = all_told turns.events in
      tenants_kept more (subst (λ (core : C). Goes t.steps t.opens t.declines core more new) same.0 goes_turned)
      (λ d. kept_told d turns.events) refl same.1

  -- one was turned away
  tenants_away : TurnsAway t.declines mid opened before opening → HasTenants t old new doors shut
  tenants_away away =
      tenants_kept (Declined away.from ∷ all_told turns.events) (opened, away.declined, goes_turned)
      (λ d. kept_told d turns.events) refl away.same

  -- one was let in
  tenants_at : OpensAt t.opens t.fresh mid opened before opening → HasTenants t old new doors shut
  tenants_at at =
      let more = Opened at.door at.from ∷ all_told turns.events in
      let goes : Goes t.steps t.opens t.declines mid more new = (opened, at.opened, goes_turned) in
      record {
        happenings = life.happenings ++ more;
        goes = goes_then t.steps t.opens t.declines old mid new life.happenings more life.goes goes;
        tenants = λ d z is.
            let stands = stands_before d z is in
            elim (eqb_tells d at.door) [
              | inl same ↦ inr (come d z same.1 (stood_before_closing t.closed t.waiting new after shut
                  closes d z is))
              | inr other ↦ longer t d old mid new doors life.happenings more stands.0 z goes
                  (other.1, kept_told d turns.events) stands.2
                  (life.tenants d stands.0
                  (sym (ap (λ (l : List (Place D)). slice_get l d) at.stands
                  ∙ slice_get-set_other before at.door d (Held at.device) other.1) ∙ stands.1))
            ];
      }
    where
      come : (d : ℕ) (z : D) → d ≡ at.door → slice_get after d ≡ Some (Held z) →
          HasCome t d old new (life.happenings ++ (Opened at.door at.from ∷ all_told turns.events)) z
      come d z same stood = record {
        before = life.happenings;
        since = all_told turns.events;
        from = at.from;
        parts = ap (λ (n : ℕ). life.happenings ++ (Opened n at.from ∷ all_told turns.events)) (sym same);
        first = mid;
        seated = opened;
        goes_before = life.goes;
        opened = subst (λ (n : ℕ). t.opens mid n at.from opened) (sym same) at.opened;
        goes_since = goes_turned;
        device = at.device;
        came_new = at.came;
        kept = kept_told d turns.events;
        says = says_turned t d opened new at.device z opening after
            (ap (λ (l : List (Place D)). slice_get l d) at.stands
            ∙ subst (λ (n : ℕ). slice_get (set before at.door (Held at.device)) n ≡ Some (Held at.device))
            (sym same) (slice_get-set_same before at.door (Held at.device) at.within))
            stood turns;
      }

module _ {C D : Type 0} (t : Telling C D) where
  pub tenants : (old new : C) (doors doors' : List (Place D)) → Lives t old new doors doors' →
      HasTenants t old new doors doors'
  tenants old new doors doors' Still = record {
    happenings = [];
    goes = refl;
    tenants = λ d x is. inl (record { device = x; stood = is; kept = tt; says = says_none t d x });
  }
  tenants old new doors doors' (Then {old = mid} {opened = opened} {before = before} {opening = opening}
      {after = after} lives opens turns closes) =
      let life = tenants old mid doors before lives in
      elim opens [
        | inl same ↦ tenants_not t old mid opened new doors before opening after doors' life turns closes same
        | inr came ↦ elim came [
          | inl at ↦ tenants_at t old mid opened new doors before opening after doors' life turns closes at
          | inr away ↦ tenants_away t old mid opened new doors before opening after doors' life turns closes away
        ]
      ]
