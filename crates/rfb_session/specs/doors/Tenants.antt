-- What happened in a run whose doors open and close, and what is at each door in the end: the device that came there
-- last. Of that one holds what `Turns` says, from when it came.
use Rattle.std.specs.Prelude.{◌≡◌, ◌≢◌, ℕ, ◌+◌, ◌<◌, List, [], ◌∷◌, ◌++◌, Some, slice_get, ⊤, ◌⊎◌}
use Rattle.std.specs.Io.KnownBytes.{Appends, Consumes}
use Rattle.rfb_session.specs.declared.doors.place.Place.{Place}
use Rattle.rfb_session.specs.declared.doors.place.Place.TheVariants.{Held}
use Rattle.rfb_session.specs.doors.Events.{Event, Stepping, came, left, ends, faults}
use Rattle.rfb_session.specs.doors.Devices.{HasEnded}
use Rattle.rfb_session.specs.doors.Lives.{Telling, Opening, Declining}

-- a core was told something, it gave a door to a device that came from there, or it gave none
pub data Happening : Type 0 where
  Told : (event : Event) → Happening
  Opened : (door : ℕ) → (from : List ℕ) → Happening
  Declined : (from : List ℕ) → Happening

-- what it was told in all of these
abbrev pub events_in : List Happening → List Event
events_in [] = []
events_in (Told event ∷ more) = event ∷ events_in more
events_in (Opened door from ∷ more) = events_in more
events_in (Declined from ∷ more) = events_in more

-- a door was not given away in them
abbrev pub IsKept : ℕ → List Happening → Type 0
IsKept d [] = ⊤
IsKept d (Told event ∷ more) = IsKept d more
IsKept d (Opened door from ∷ more) = (d ≢ door) × IsKept d more
IsKept d (Declined from ∷ more) = IsKept d more

module _ {C : Type 0} where
  -- one thing happened to a core, which became that one
  abbrev pub Meets : Stepping C → Opening C → Declining C → C → Happening → C → Type 0
  Meets steps opens declines old (Told event) new = steps old event new
  Meets steps opens declines old (Opened door from) new = opens old door from new
  Meets steps opens declines old (Declined from) new = declines old from new

  -- these happened to it, one after the other, and nothing else did
  abbrev pub Goes : Stepping C → Opening C → Declining C → C → List Happening → C → Type 0
  Goes steps opens declines old [] new = new ≡ old
  Goes steps opens declines old (happening ∷ more) new =
      (mid : C) × Meets steps opens declines old happening mid × Goes steps opens declines mid more new

module _ {C D : Type 0} where
  -- what events say of a door is what was read and written of a device there
  pub record Says (t : Telling C D) (d : ℕ) (device device' : D) (events : List Event) : Type 0 where
    pub reads : Consumes (t.unread device) (t.unread device') (came d events)
    pub writes : Appends (t.written device) (t.written device') (left d events)
    pub ended : 0 < ends d events → HasEnded (t.unread device) (t.unread device')
    pub fails : t.failed device' ≡ t.failed device + faults d events

  -- a device was at a door from the beginning
  pub record HasStood (t : Telling C D) (d : ℕ) (doors : List (Place D)) (happenings : List Happening)
      (device' : D) : Type 0 where
    pub device : D
    pub stood : slice_get doors d ≡ Some (Held device)
    pub kept : IsKept d happenings
    pub says : Says t d device device' (events_in happenings)

  -- it came there, and was there since then
  pub record HasCome (t : Telling C D) (d : ℕ) (old new : C) (happenings : List Happening) (device' : D)
      : Type 0 where
    pub before : List Happening
    pub since : List Happening
    pub from : List ℕ
    pub parts : happenings ≡ before ++ (Opened d from ∷ since)
    pub first : C
    pub seated : C
    pub goes_before : Goes t.steps t.opens t.declines old before first
    pub opened : t.opens first d from seated
    pub goes_since : Goes t.steps t.opens t.declines seated since new
    pub device : D
    pub came_new : t.fresh device
    pub kept : IsKept d since
    pub says : Says t d device device' (events_in since)

  -- all that happened, in order, and whatever is at a door in the end
  pub record HasTenants (t : Telling C D) (old new : C) (doors doors' : List (Place D)) : Type 0 where
    pub happenings : List Happening
    pub goes : Goes t.steps t.opens t.declines old happenings new
    pub tenants : (d : ℕ) (device' : D) → slice_get doors' d ≡ Some (Held device') →
        HasStood t d doors happenings device' ⊎ HasCome t d old new happenings device'
