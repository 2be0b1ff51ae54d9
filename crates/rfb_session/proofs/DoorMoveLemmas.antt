-- What a loop did at one door, from what the core was told and what the device did.
use Rattle.std.proofs.Common.{◌≡◌, ℕ, ◌+◌, ◌-◌, ◌<◌, ◌≤◌, Bool, List, [], ◌∷◌}
use Rattle.std.proofs.Common.{◌++◌, Option, Some, None, take, drop, length}
use Rattle.std.proofs.Common.{refl, sym, ap, ◌∙◌, subst, append-nil, append_assoc, take-append-drop, arith, length-drop}
use Rattle.std.proofs.Common.{inl, inr}
use Rattle.std.proofs.lemmas.Bool.Decides.{eqb_tells}
use Rattle.std.specs.Io.KnownBytes.{Appends, Consumes, Keeps, IsAtEnd}
use Rattle.std.proofs.lemmas.List.{take_all, take-take, length-take}
use Rattle.std.proofs.KnownBytes.{Keeps-refl}
use Rattle.rfb_session.specs.doors.Events.{Event, Ended, Failed, Wrote, Received, Stepping, Runs, Brings, Nothing, left}
use Rattle.rfb_session.specs.doors.Devices.{Stays, Gave, Took, HasEnded}
use Rattle.rfb_session.specs.doors.Turns.{Moves, MovesIn, MovesOut}
use Rattle.rfb_session.proofs.DoorEventLemmas.{Tells, nothing_told, end_told, fault_told, bytes_left, brought}
use Rattle.rfb_session.proofs.DoorEventLemmas.{brings_more}

-- ---- known bytes, and none went

pub none_read : (a b : Option (List ℕ)) → Keeps a b → Consumes a b []
none_read None b kept = tt
none_read (Some x) None kept = absurd kept
none_read (Some x) (Some y) kept = sym kept

pub none_written : (a b : Option (List ℕ)) → Keeps a b → Appends a b []
none_written None b kept = tt
none_written (Some x) None kept = absurd kept
none_written (Some x) (Some y) kept = kept ∙ sym (append-nil x)

at_end : (a b : Option (List ℕ)) → IsAtEnd b → HasEnded a b
at_end None b all = tt
at_end (Some x) b all = all

-- where no byte left at a door, and nothing was told of another, none left anywhere
none_left : (door : ℕ) (events : List Event) (bytes : List ℕ) (ended faults : ℕ) →
    Tells door events bytes [] ended faults → (d : ℕ) → left d events ≡ []
none_left door events bytes ended faults tells d = elim (eqb_tells d door) [
  | inl same ↦ subst (λ (n : ℕ). left n events ≡ []) (sym same.1) tells.left_is
  | inr other ↦ (tells.others d other.1).none_left
]

-- ---- one door

module _ {C D : Type 0} {steps : Stepping C} {unread written : D → Option (List ℕ)} {failed : D → ℕ}
    {stands : D → Bool} {door : ℕ} {old new : C} {device device' : D} where
  moves_by : (events : List Event) (bytes gone : List ℕ) (ended faults : ℕ) → Runs steps old events new →
      Tells door events bytes gone ended faults → Consumes (unread device) (unread device') bytes →
      Appends (written device) (written device') gone →
      (0 < ended → HasEnded (unread device) (unread device')) →
      failed device' ≡ failed device + faults → stands device' ≡ stands device →
      Moves steps unread written failed stands door old new device device'
  moves_by events bytes gone ended faults runs tells reads writes ends fails stays = record {
    events = events;
    runs = runs;
    reads = subst (λ (l : List ℕ). Consumes (unread device) (unread device') l) (sym tells.came_is) reads;
    writes = subst (λ (l : List ℕ). Appends (written device) (written device') l) (sym tells.left_is)
        writes;
    ended = λ some. ends (subst (λ (n : ℕ). 0 < n) tells.ends_are some);
    fails = fails ∙ ap (λ (n : ℕ). failed device + n) (sym tells.faults_are);
    stays = stays;
    others = tells.others;
  }

  -- nothing was told, and no byte went
  pub moves_none : new ≡ old →
      Stays (unread device) (unread device') (written device) (written device')
      (failed device) (failed device') 0 → stands device' ≡ stands device →
      Moves steps unread written failed stands door old new device device'
  moves_none same stays still =
      moves_by [] [] [] 0 0 same (nothing_told door)
      (none_read (unread device) (unread device') stays.none_came)
      (none_written (written device) (written device') stays.none_left)
      (λ some. absurd (omega arith)) stays.count still

  pub moves_end : steps old (Ended door) new → IsAtEnd (unread device') →
      Stays (unread device) (unread device') (written device) (written device')
      (failed device) (failed device') 0 → stands device' ≡ stands device →
      Moves steps unread written failed stands door old new device device'
  moves_end step all stays still =
      moves_by (Ended door ∷ []) [] [] 1 0 (new, step, refl) (end_told door)
      (none_read (unread device) (unread device') stays.none_came)
      (none_written (written device) (written device') stays.none_left)
      (λ some. at_end (unread device) (unread device') all) stays.count still

  pub moves_fault : steps old (Failed door) new →
      Stays (unread device) (unread device') (written device) (written device')
      (failed device) (failed device') 1 → stands device' ≡ stands device →
      Moves steps unread written failed stands door old new device device'
  moves_fault step stays still =
      moves_by (Failed door ∷ []) [] [] 0 1 (new, step, refl) (fault_told door)
      (none_read (unread device) (unread device') stays.none_came)
      (none_written (written device) (written device') stays.none_left)
      (λ some. absurd (omega arith)) stays.count still

  -- bytes came, and the core was brought all of them
  pub moves_in : (count : ℕ) (buf : List ℕ) → Brings steps door old (take count buf) new →
      Gave count (unread device) (unread device') (written device) (written device')
      (failed device) (failed device') buf → stands device' ≡ stands device →
      MovesIn steps unread written failed stands door old new device device'
  unfolding moves_by
  moves_in count buf brings gave still =
      let told = brought steps door old (take count buf) new brings in (
        moves_by told.events (take count buf) [] 0 0 told.runs told.tells gave.came
            (none_written (written device) (written device') gave.none_left)
            (λ some. absurd (omega arith)) (omega (arith, gave.no_fault)) still,
        none_left door told.events (take count buf) 0 0 told.tells,
      )

  -- an end and a failure, at which no byte went
  pub moves_in_end : steps old (Ended door) new → IsAtEnd (unread device') →
      Stays (unread device) (unread device') (written device) (written device')
      (failed device) (failed device') 0 → stands device' ≡ stands device →
      MovesIn steps unread written failed stands door old new device device'
  unfolding moves_end moves_by
  moves_in_end step all stays still = (moves_end step all stays still, λ d. refl)

  pub moves_in_fault : steps old (Failed door) new →
      Stays (unread device) (unread device') (written device) (written device')
      (failed device) (failed device') 1 → stands device' ≡ stands device →
      MovesIn steps unread written failed stands door old new device device'
  unfolding moves_fault moves_by
  moves_in_fault step stays still = (moves_fault step stays still, λ d. refl)

  pub moves_out_fault : steps old (Failed door) new →
      Stays (unread device) (unread device') (written device) (written device')
      (failed device) (failed device') 1 → stands device' ≡ stands device →
      MovesOut steps unread written failed stands door old new device device'
  unfolding moves_fault moves_by
  moves_out_fault step stays still = (moves_fault step stays still, λ d. refl)

  -- nothing was done
  pub moves_in_none : new ≡ old →
      Stays (unread device) (unread device') (written device) (written device')
      (failed device) (failed device') 0 → stands device' ≡ stands device →
      MovesIn steps unread written failed stands door old new device device'
  unfolding moves_none moves_by
  moves_in_none same stays still = (moves_none same stays still, λ d. refl)

  pub moves_out_none : new ≡ old →
      Stays (unread device) (unread device') (written device) (written device')
      (failed device) (failed device') 0 → stands device' ≡ stands device →
      MovesOut steps unread written failed stands door old new device device'
  unfolding moves_none moves_by
  moves_out_none same stays still = (moves_none same stays still, λ d. refl)

  -- bytes left, and it was told so
  pub moves_out : (count : ℕ) (buf waiting : List ℕ) → buf ≡ waiting →
      steps old (Wrote door (take count waiting)) new →
      Took count (unread device) (unread device') (written device) (written device')
      (failed device) (failed device') buf → stands device' ≡ stands device →
      MovesOut steps unread written failed stands door old new device device'
  unfolding moves_by
  moves_out count buf waiting same step took still = (
    moves_by (Wrote door (take count waiting) ∷ []) [] (take count waiting) 0 0 (new, step, refl)
        (bytes_left door (take count waiting))
        (none_read (unread device) (unread device') took.none_came)
        (subst (λ (l : List ℕ). Appends (written device) (written device') (take count l)) same took.left)
        (λ some. absurd (omega arith)) (omega (arith, took.no_fault)) still,
    λ d. refl,
  )

-- what a write took of some bytes in front it took of all
pub took_front : {u u' w w' : Option (List ℕ)} {f f' : ℕ} (count n : ℕ) (buf : List ℕ) →
    Took count u u' w w' f f' (take n buf) → Took count u u' w w' f f' buf
took_front {w = w} {w' = w'} count n buf took =
    let within : count ≤ n = omega (arith, took.bound, length-take n buf) in
    record {
      some = took.some;
      bound = omega (arith, took.bound, length-take n buf);
      none_came = took.none_came;
      left = subst (λ (l : List ℕ). Appends w w' l) (take-take count n buf within) took.left;
      no_fault = took.no_fault;
    }

-- ---- a door that was let be

module _ {C D : Type 0} (steps : Stepping C) (unread written : D → Option (List ℕ)) (failed : D → ℕ)
    (stands : D → Bool) (door : ℕ) (core : C) (device : D) where
  pub moves_not : Moves steps unread written failed stands door core core device device
  moves_not = moves_none refl (record {
    none_came = Keeps-refl (unread device);
    none_left = Keeps-refl (written device);
    count = omega arith;
  }) refl

  pub moves_in_not : MovesIn steps unread written failed stands door core core device device
  unfolding moves_not moves_none moves_by
  moves_in_not = (moves_not, λ d. refl)

  pub moves_out_not : MovesOut steps unread written failed stands door core core device device
  unfolding moves_not moves_none moves_by
  moves_out_not = (moves_not, λ d. refl)

-- ---- bytes on their way to the core

-- what `&rest[used..]` is
pub rest_is : (rest : List ℕ) (used : ℕ) → take (length rest - used) (drop used rest) ≡ drop used rest
rest_is rest used = take_all (length rest - used) (drop used rest) (omega (arith, length-drop used rest))

-- of some bytes these are left, and it still has room for them
pub record BringsUpTo {C : Type 0} (steps : Stepping C) (space : C → ℕ → ℕ) (door : ℕ)
    (old new : C) (bytes rest : List ℕ) : Type 0 where
  pub front : List ℕ
  pub parts : bytes ≡ front ++ rest
  pub brings : Brings steps door old front new
  pub room : length rest ≤ space new door

module _ {C : Type 0} (steps : Stepping C) (space : C → ℕ → ℕ) (door : ℕ) where
  pub none_brought : (old : C) (bytes : List ℕ) → length bytes ≤ space old door →
      BringsUpTo steps space door old old bytes bytes
  none_brought old bytes room = record { front = []; parts = refl; brings = Nothing; room = room }

  pub part_brought : (old mid new : C) (bytes rest : List ℕ) (used : ℕ) →
      BringsUpTo steps space door old mid bytes rest → steps mid (Received door (take used rest)) new →
      length (drop used rest) ≤ space new door →
      BringsUpTo steps space door old new bytes (drop used rest)
  part_brought old mid new bytes rest used was step room = record {
    front = was.front ++ take used rest;
    parts = was.parts ∙ ap (λ (l : List ℕ). was.front ++ l) (sym (take-append-drop used rest))
        ∙ sym (append_assoc was.front (take used rest) (drop used rest));
    brings = brings_more steps door old mid new was.front (take used rest) was.brings step;
    room = room;
  }

  pub all_brought : (old new : C) (bytes rest : List ℕ) → BringsUpTo steps space door old new bytes rest →
      rest ≡ [] → Brings steps door old bytes new
  all_brought old new bytes rest was none =
      subst (λ (l : List ℕ). Brings steps door old l new)
      (sym (was.parts ∙ ap (λ (l : List ℕ). was.front ++ l) none ∙ append-nil was.front)) was.brings
