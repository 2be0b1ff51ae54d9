-- A run whose doors open and close: turns over doors that stay as they are, and between them doors
-- that open and doors that close.
use Rattle.std.specs.Prelude.{◌≡◌, ℕ, ◌<◌, Bool, List, Option, Some, length, slice_get, slice_set, ◌⊎◌}
use Rattle.rfb_session.specs.declared.doors.place.Place.{Place}
use Rattle.rfb_session.specs.declared.doors.place.Place.TheVariants.{Empty, Held}
use Rattle.rfb_session.specs.doors.Events.{Stepping}
use Rattle.rfb_session.specs.doors.Wants.{IsOver}
use Rattle.rfb_session.specs.doors.Places.{known_in, number_in, is_held}
use Rattle.rfb_session.specs.doors.Turns.{Turns}

-- what a core may become when it gives a door to whoever came from there, and when it gives none
abbrev pub Opening : Type 0 → Type 1
Opening C = C → ℕ → List ℕ → C → Type 0

abbrev pub Declining : Type 0 → Type 1
Declining C = C → List ℕ → C → Type 0

module _ {C D : Type 0} where
  -- a device that just came from there is at the door that the core chose for it, and what was there is gone
  pub record OpensAt (opens : Opening C) (fresh : D → Type 0) (old new : C)
      (doors doors' : List (Place D)) : Type 0 where
    pub door : ℕ
    pub from : List ℕ
    pub device : D
    pub came : fresh device
    pub within : door < length doors
    pub opened : opens old door from new
    pub stands : doors' ≡ slice_set doors door (Held device)

  -- one that came from there has got none, and is gone
  pub record TurnsAway (declines : Declining C) (old new : C) (doors doors' : List (Place D)) : Type 0 where
    pub from : List ℕ
    pub declined : declines old from new
    pub same : doors' ≡ doors

  -- none came and nothing changed; or one came, and a door was opened, or none
  abbrev pub Opens : Opening C → Declining C → (D → Type 0) → C → C →
      List (Place D) → List (Place D) → Type 0
  Opens opens declines fresh old new doors doors' =
      ((new ≡ old) × (doors' ≡ doors))
      ⊎ OpensAt opens fresh old new doors doors'
      ⊎ TurnsAway declines old new doors doors'

  -- the doors that are over have become empty, and the others are as they were
  pub record Closes (closed : C → ℕ → Bool) (waiting : C → ℕ → List ℕ) (core : C)
      (doors doors' : List (Place D)) : Type 0 where
    pub many : length doors' ≡ length doors
    pub shut : (d : ℕ) → d < length doors → IsOver closed waiting core d → slice_get doors' d ≡ Some Empty
    pub kept : (d : ℕ) → (IsOver closed waiting core d → ⊥) → slice_get doors' d ≡ slice_get doors d

-- what a core and its devices say of themselves
pub record Telling (C D : Type 0) : Type 1 where
  pub steps : Stepping C
  pub opens : Opening C
  pub declines : Declining C
  pub closed : C → ℕ → Bool
  pub waiting : C → ℕ → List ℕ
  pub unread : D → Option (List ℕ)
  pub written : D → Option (List ℕ)
  pub failed : D → ℕ
  pub fresh : D → Type 0

module _ {C D : Type 0} where
  -- all of these
  abbrev pub telling : Stepping C → Opening C → Declining C → (C → ℕ → Bool) → (C → ℕ → List ℕ) →
      (D → Option (List ℕ)) → (D → Option (List ℕ)) → (D → ℕ) → (D → Type 0) → Telling C D
  telling steps opens declines closed waiting unread written failed fresh = record {
    steps = steps;
    opens = opens;
    declines = declines;
    closed = closed;
    waiting = waiting;
    unread = unread;
    written = written;
    failed = failed;
    fresh = fresh;
  }

  -- turns over doors at which devices may be
  abbrev pub PlaceTurns : Telling C D → C → C → List (Place D) → List (Place D) → Type 0
  PlaceTurns t old new doors doors' =
      Turns t.steps (known_in t.unread) (known_in t.written) (number_in t.failed) is_held
      old new doors doors'

  -- openings, turns and closings, one after the other
  pub data Lives (t : Telling C D) : C → C → List (Place D) → List (Place D) → Type 0 where
    Still : {core : C} {doors : List (Place D)} → Lives t core core doors doors
    Then : {first old opened new : C} {doors before opening after shut : List (Place D)} →
        Lives t first old doors before → Opens t.opens t.declines t.fresh old opened before opening →
        PlaceTurns t opened new opening after → Closes t.closed t.waiting new after shut →
        Lives t first new doors shut
