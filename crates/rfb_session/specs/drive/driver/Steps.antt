-- What happens at the doors of a driver.
use Rattle.std.specs.Prelude.{◌≡◌, ◌≢◌, ◌<◌, ℕ, ◌-◌, ◌==◌, Bool, true, false, ◌&&◌, ◌||◌, List, []}
use Rattle.std.specs.Prelude.{Option, Some, None, length, take, drop, is_some, if◌then◌else◌}
use Rattle.rfb_session.specs.declared.drive.driver.Driver.{Driver}
use Rattle.rfb_session.specs.declared.drive.driver.Rooms.{Rooms}
use Rattle.rfb_session.specs.declared.drive.driver.outcome.DriveOutcome.{DriveOutcome}
use Rattle.rfb_session.specs.declared.drive.driver.outcome.DriveOutcome.TheVariants as How
use Rattle.rfb_session.specs.declared.relay.gone.Gone.TheVariants.{Closed, Device as LostDevice}
use Rattle.rfb_session.specs.doors.Events.{Event, Received, Ended, Failed, Wrote, Turned}
use Rattle.rfb_session.specs.drive.driver.Driver.{FinishesIf, HearsDriven, LosesServer, ends}
use Rattle.rfb_session.specs.drive.driver.Input.{ended, with_bytes}
use Rattle.rfb_session.specs.drive.driver.Rigs.{Rigging}
use Rattle.rfb_session.specs.drive.driver.LineRun.{with_task}
use Rattle.rfb_session.specs.drive.driver.Tasks.{is_sent, left_by}
use Rattle.rfb_session.specs.drive.driver.DriverTurn.{GoesOn, with_rooms, with_turns}

-- the device that reports go to has failed
abbrev pub is_lost : Option DriveOutcome → Bool
is_lost None = false
is_lost (Some How.Done) = false
is_lost (Some (How.BadLine number)) = false
is_lost (Some (How.Late number)) = false
is_lost (Some (How.File number)) = false
is_lost (Some (How.ServerGone how)) = false
is_lost (Some How.NoMemory) = false
is_lost (Some How.Device) = true

-- memory was wanting
abbrev pub wants_memory : Option DriveOutcome → Bool
wants_memory (Some How.NoMemory) = true
wants_memory other = false

-- so many bytes of a door were taken
abbrev pub rooms_spent : ℕ → ℕ → Rooms → Rooms
rooms_spent door used rooms =
    if door == 0 then record rooms { server = rooms.server - used }
    else (if door == 1 then record rooms { orders = rooms.orders - used } else rooms)

abbrev pub server_closed : Rooms → Rooms
server_closed rooms = record rooms { server = 0 }

abbrev pub orders_closed : Rooms → Rooms
orders_closed rooms = record rooms { orders = 0 }

module _ {R : Type 0} where
  -- ---- doors: the server's is 0, the rig's 1; lines go out at 9, and sentences at 10

  abbrev pub waits_at : Driver R → ℕ → List ℕ
  waits_at driver d =
      if d == 0 then driver.to_server
      else (if d == 9 then driver.lines else (if d == 10 then driver.notes else []))

  abbrev pub space_at : Driver R → ℕ → ℕ
  space_at driver d = if d == 0 then driver.rooms.server else (if d == 1 then driver.rooms.orders else 0)

  abbrev pub closed_at : Driver R → ℕ → Bool
  closed_at driver d =
      if d == 0 then false
      else (if d == 1 then is_some driver.outcome || driver.input.has_ended
      else (if d == 9 then is_lost driver.outcome
      else (if d == 10 then driver.are_notes_lost else true)))

  abbrev pub spent : ℕ → ℕ → Driver R → Driver R
  spent door used old = record old { rooms = rooms_spent door used old.rooms }

  -- ---- what happens there

  -- bytes of the rig's are kept; after the end they are not
  pub data Adds (bytes : List ℕ) (old new : Driver R) : Type 0 where
    Dropped : old.outcome ≢ None → new ≡ old → Adds bytes old new
    Added : new ≡ record old { input = with_bytes bytes old.input } → Adds bytes old new
    NoRoomToAdd : new ≡ ends How.NoMemory old → Adds bytes old new

  -- bytes came, and so many were taken
  pub record HearsDoor (old : Driver R) (door : ℕ) (bytes : List ℕ) (used : ℕ) (new : Driver R) : Type 0 where
    pub server : door ≡ 0 → HearsDriven old bytes used new
    pub orders : door ≡ 1 → Adds bytes old new × (used ≡ length bytes)
    pub other : 1 < door → new ≡ old

  -- the first bytes that waited for the server have left, and with the last of its messages the line is done
  abbrev pub Leaves : ℕ → Driver R → Driver R → Type 0
  Leaves count old new =
      FinishesIf (is_sent (left_by count old.pace.task))
      (record old { to_server = drop count old.to_server; pace = with_task (left_by count old.pace.task) old.pace })
      new

  -- ---- each door

  pub record EndsDoor (old : Driver R) (door : ℕ) (new : Driver R) : Type 0 where
    pub server : door ≡ 0 → (lost : Driver R) × LosesServer old Closed lost
        × (new ≡ record lost { rooms = server_closed lost.rooms })
    pub orders : door ≡ 1 → new ≡ record old { input = ended old.input; rooms = orders_closed old.rooms }
    pub other : 1 < door → new ≡ old

  pub record FailsDoor (old : Driver R) (door : ℕ) (new : Driver R) : Type 0 where
    pub server : door ≡ 0 → (lost : Driver R) × LosesServer old LostDevice lost
        × (new ≡ record lost { rooms = server_closed lost.rooms })
    pub orders : door ≡ 1 → (lost : Driver R) × (lost ≡ ends How.Device old)
        × (new ≡ record lost { rooms = orders_closed lost.rooms })
    pub lines : door ≡ 9 → new ≡ record (ends How.Device old) { lines = [] }
    pub notes : door ≡ 10 → new ≡ record old { notes = []; are_notes_lost = true }
    pub other : door ≢ 0 → door ≢ 1 → door ≢ 9 → door ≢ 10 → new ≡ old

  pub record WritesDoor (old : Driver R) (door : ℕ) (bytes : List ℕ) (new : Driver R) : Type 0 where
    pub first : bytes ≡ take (length bytes) (waits_at old door)
    pub server : door ≡ 0 → Leaves (length bytes) old new
    pub lines : door ≡ 9 → new ≡ record old { lines = drop (length bytes) old.lines }
    pub notes : door ≡ 10 → new ≡ record old { notes = drop (length bytes) old.notes }
    pub other : door ≢ 0 → door ≢ 9 → door ≢ 10 → new ≡ old

  pub record HearsAt (old : Driver R) (door : ℕ) (part : List ℕ) (new : Driver R) : Type 0 where
    pub bytes : List ℕ
    pub used : ℕ
    pub part_is : part ≡ take used bytes
    pub mid : Driver R
    pub hears : HearsDoor old door bytes used mid
    pub room : new ≡ spent door used mid

  -- lines and notes that wait have left, or nobody reads them
  abbrev pub has_told : Driver R → Bool
  has_told driver =
      length driver.lines == 0 && (length driver.notes == 0 || driver.are_notes_lost)

  -- all has ended: for want of memory at once, else once what waits has left or its time is over
  abbrev pub has_ended : Driver R → Bool
  has_ended driver =
      is_some driver.outcome && (driver.turns.is_over || wants_memory driver.outcome || has_told driver)

  -- nobody is let in
  abbrev pub LetsIn : Driver R → ℕ → List ℕ → Driver R → Type 0
  LetsIn old door from new = ⊥

  abbrev pub TurnsAway : Driver R → List ℕ → Driver R → Type 0
  TurnsAway old from new = new ≡ old

module _ {R : Type 0} (steps : Rigging R) where
  -- a turn
  pub record TurnsDriver (old : Driver R) (now : ℕ) (new : Driver R) : Type 0 where
    pub mid : Driver R
    pub goes : GoesOn steps now old mid
    pub room : new ≡ with_turns now (with_rooms mid)

  abbrev pub DriverSteps : Driver R → Event → Driver R → Type 0
  DriverSteps old (Received door bytes) new = HearsAt old door bytes new
  DriverSteps old (Ended door) new = EndsDoor old door new
  DriverSteps old (Failed door) new = FailsDoor old door new
  DriverSteps old (Wrote door bytes) new = WritesDoor old door bytes new
  DriverSteps old (Turned now) new = TurnsDriver old now new
