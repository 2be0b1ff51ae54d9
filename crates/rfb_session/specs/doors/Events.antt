-- What a loop reports to its core, in order, and what that says of each door.
use Rattle.std.specs.Prelude.{◌≡◌, ℕ, ◌+◌, ◌==◌, List, [], ◌∷◌, ◌++◌, if◌then◌else◌}

-- these bytes came at a door; no more come there; it has failed; these bytes left there; all that was
-- ready has been heard, and it is this time
pub data Event : Type 0 where
  Received : (door : ℕ) → (bytes : List ℕ) → Event
  Ended : (door : ℕ) → Event
  Failed : (door : ℕ) → Event
  Wrote : (door : ℕ) → (bytes : List ℕ) → Event
  Turned : (now : ℕ) → Event

-- the bytes that came at a door, by one event
abbrev pub came_by : ℕ → Event → List ℕ
came_by d (Received door bytes) = if d == door then bytes else []
came_by d (Ended door) = []
came_by d (Failed door) = []
came_by d (Wrote door bytes) = []
came_by d (Turned now) = []

-- the bytes that left there
abbrev pub left_by : ℕ → Event → List ℕ
left_by d (Received door bytes) = []
left_by d (Ended door) = []
left_by d (Failed door) = []
left_by d (Wrote door bytes) = if d == door then bytes else []
left_by d (Turned now) = []

-- how many ends were told of it
abbrev pub ends_by : ℕ → Event → ℕ
ends_by d (Received door bytes) = 0
ends_by d (Ended door) = if d == door then 1 else 0
ends_by d (Failed door) = 0
ends_by d (Wrote door bytes) = 0
ends_by d (Turned now) = 0

-- how many failures were told of it
abbrev pub faults_by : ℕ → Event → ℕ
faults_by d (Received door bytes) = 0
faults_by d (Ended door) = 0
faults_by d (Failed door) = if d == door then 1 else 0
faults_by d (Wrote door bytes) = 0
faults_by d (Turned now) = 0

-- the same of all of some events
abbrev pub came : ℕ → List Event → List ℕ
came d [] = []
came d (event ∷ events) = came_by d event ++ came d events

abbrev pub left : ℕ → List Event → List ℕ
left d [] = []
left d (event ∷ events) = left_by d event ++ left d events

abbrev pub ends : ℕ → List Event → ℕ
ends d [] = 0
ends d (event ∷ events) = ends_by d event + ends d events

abbrev pub faults : ℕ → List Event → ℕ
faults d [] = 0
faults d (event ∷ events) = faults_by d event + faults d events

-- nothing was told of a door: no byte either way, no end and no failure
pub record IsQuiet (d : ℕ) (events : List Event) : Type 0 where
  pub none_came : came d events ≡ []
  pub none_left : left d events ≡ []
  pub no_end : ends d events ≡ 0
  pub no_fault : faults d events ≡ 0

-- what a core may become when it is told something
abbrev pub Stepping : Type 0 → Type 1
Stepping C = C → Event → C → Type 0

module _ {C : Type 0} where
  -- it was told these events, one after the other, and nothing else happened to it
  abbrev pub Runs : Stepping C → C → List Event → C → Type 0
  Runs steps old [] new = new ≡ old
  Runs steps old (event ∷ events) new = (mid : C) × steps old event mid × Runs steps mid events new

  -- it was told that all of these bytes came at a door, part by part and in order, and nothing else
  pub data Brings (steps : Stepping C) (door : ℕ) : C → List ℕ → C → Type 0 where
    Nothing : {old : C} → Brings steps door old [] old
    Then : {old mid new : C} {part bytes : List ℕ} → steps old (Received door part) mid →
        Brings steps door mid bytes new → Brings steps door old (part ++ bytes) new
