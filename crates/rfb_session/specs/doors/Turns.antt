-- What a loop did at one door, and at all of them.
use Rattle.std.specs.Prelude.{◌≡◌, ◌≢◌, ℕ, ◌+◌, ◌<◌, ◌≤◌, Bool, Option}
use Rattle.std.specs.Prelude.{List, [], take, length}
use Rattle.std.specs.Io.KnownBytes.{Appends, Consumes}
use Rattle.rfb_session.specs.doors.Events.{Event, Wrote, Turned, Stepping, Runs, Brings, IsQuiet, came, left, ends}
use Rattle.rfb_session.specs.doors.Events.{faults}
use Rattle.rfb_session.specs.doors.Events.{Ended as TheEnd, Failed as Fault}
use Rattle.rfb_session.specs.doors.Devices.{HasEnded, known_at, number_at, flag_at}
use Rattle.rfb_session.specs.declared.doors.device.Answer.{Answer}
use Rattle.rfb_session.specs.declared.doors.device.Answer.TheVariants.{Moved, Ended, Again, Waits, Failed}

module _ {C : Type 0} where
  -- what a core was told of a read at a door, by its answer
  abbrev pub Hears : Stepping C → ℕ → Answer → C → C → Type 0
  Hears steps door (Moved count) old new =
      (bytes : List ℕ) × (length bytes ≡ count) × Brings steps door old bytes new
  Hears steps door Ended old new = steps old (TheEnd door) new
  Hears steps door Again old new = new ≡ old
  Hears steps door Waits old new = new ≡ old
  Hears steps door Failed old new = steps old (Fault door) new

  -- what it was told of a write there of the bytes that waited
  abbrev pub Learns : Stepping C → ℕ → List ℕ → Answer → C → C → Type 0
  Learns steps door waiting (Moved count) old new = steps old (Wrote door (take count waiting)) new
  Learns steps door waiting Ended old new = ⊥
  Learns steps door waiting Again old new = new ≡ old
  Learns steps door waiting Waits old new = new ≡ old
  Learns steps door waiting Failed old new = steps old (Fault door) new

module _ {C D : Type 0} where
  -- one door: what the core was told is what was done there, and nothing was told of another
  pub record Moves (steps : Stepping C) (unread written : D → Option (List ℕ)) (failed : D → ℕ)
      (stands : D → Bool) (door : ℕ) (old new : C) (device device' : D) : Type 0 where
    pub events : List Event
    pub runs : Runs steps old events new
    pub reads : Consumes (unread device) (unread device') (came door events)
    pub writes : Appends (written device) (written device') (left door events)
    pub ended : 0 < ends door events → HasEnded (unread device) (unread device')
    pub fails : failed device' ≡ failed device + faults door events
    pub stays : stands device' ≡ stands device
    pub others : (d : ℕ) → d ≢ door → IsQuiet d events

  -- all doors; each stays at its number
  pub record Turns (steps : Stepping C) (unread written : D → Option (List ℕ)) (failed : D → ℕ)
      (stands : D → Bool) (old new : C) (doors doors' : List D) : Type 0 where
    pub events : List Event
    pub runs : Runs steps old events new
    pub reads : (d : ℕ) → Consumes (known_at unread doors d) (known_at unread doors' d) (came d events)
    pub writes : (d : ℕ) → Appends (known_at written doors d) (known_at written doors' d) (left d events)
    pub ended : (d : ℕ) → 0 < ends d events →
        HasEnded (known_at unread doors d) (known_at unread doors' d)
    pub fails : (d : ℕ) → number_at failed doors' d ≡ number_at failed doors d + faults d events
    pub stays : (d : ℕ) → flag_at stands doors' d ≡ flag_at stands doors d
    pub beyond : (d : ℕ) → length doors ≤ d → IsQuiet d events
    pub many : length doors' ≡ length doors

  module _ (steps : Stepping C) (unread written : D → Option (List ℕ)) (failed : D → ℕ) (stands : D → Bool)
    where
      -- one door where no byte leaves, and one where none comes
      abbrev pub MovesIn : ℕ → C → C → D → D → Type 0
      MovesIn door old new device device' =
          (moves : Moves steps unread written failed stands door old new device device')
          × ((d : ℕ) → left d moves.events ≡ [])

      abbrev pub MovesOut : ℕ → C → C → D → D → Type 0
      MovesOut door old new device device' =
          (moves : Moves steps unread written failed stands door old new device device')
          × ((d : ℕ) → came d moves.events ≡ [])

      -- the same of all doors
      abbrev pub TurnsIn : C → C → List D → List D → Type 0
      TurnsIn old new doors doors' =
          (turns : Turns steps unread written failed stands old new doors doors')
          × ((d : ℕ) → left d turns.events ≡ [])

      abbrev pub TurnsOut : C → C → List D → List D → Type 0
      TurnsOut old new doors doors' =
          (turns : Turns steps unread written failed stands old new doors doors')
          × ((d : ℕ) → came d turns.events ≡ [])

  -- one turn. What was ready was heard, while nothing left. Then the core was told the time, and wanted to be called
  -- next at that one. Then what waited was written, while nothing came
  pub record TurnsOnce (steps : Stepping C) (due : C → Option ℕ) (unread written : D → Option (List ℕ))
      (failed : D → ℕ) (stands : D → Bool) (next : Option ℕ) (old new : C) (doors doors' : List D)
      : Type 0 where
    pub heard : C
    pub turned : C
    pub mid : List D
    pub now : ℕ
    pub hears : TurnsIn steps unread written failed stands old heard doors mid
    pub turns : steps heard (Turned now) turned
    pub next_is : next ≡ due turned
    pub tells : TurnsOut steps unread written failed stands turned new mid doors'
