-- What waits at the doors of a relay, how much is taken at each, and what stays there.
use Rattle.std.specs.Prelude.{◌≡◌, ◌<◌, ◌≤◌, ◌⊎◌, ℕ, ◌+◌, ◌-◌, ◌==◌, Bool}
use Rattle.std.specs.Prelude.{false, nat_lt, nat_eq}
use Rattle.std.specs.Prelude.{cond, ◌&&◌, not}
use Rattle.std.specs.Prelude.{List, drop, slice_index_or, Some, None}
use Rattle.std.specs.Prelude.{length, is_some, if◌then◌else◌}
use Rattle.rfb_wire.specs.stream.FaultPlace.{counted_on}
use Rattle.rfb_session.specs.declared.console.Outcome.TheVariants.{NoMemory}
use Rattle.rfb_session.specs.declared.relay.Relay.{Relay}
use Rattle.rfb_session.specs.console.Console.{KeepsSide, KeepsButRooms}
use Rattle.rfb_session.specs.console.Console.{waiting_at, space_at, closed_at, room_of_seat}
use Rattle.rfb_session.specs.relay.Calls.{counted_for}
use Rattle.rfb_session.specs.relay.Presence.{is_gone}

module _ {S : Type 0} where
  abbrev pub waits_at_door : Relay S → ℕ → List ℕ
  waits_at_door relay d = if d == 0 then relay.to_server else waiting_at relay.console d

  abbrev pub space_at_door : Relay S → ℕ → ℕ
  space_at_door relay d = space_at relay.console d

  abbrev pub closed_at_door : Relay S → ℕ → Bool
  closed_at_door relay d = if d == 0 then is_gone relay.presence else closed_at relay.console d

  -- how much of the server is read in one turn: nothing once it has gone or all has ended
  abbrev pub room_of_server : Relay S → ℕ
  room_of_server relay = cond (not (is_gone relay.presence) && not (is_some relay.console.outcome)) 65536 0

  -- how many bytes of what a viewer did wait for the server, counted until nothing waits
  abbrev pub passed_at : Relay S → ℕ → ℕ
  passed_at relay k = slice_index_or relay.passed k 0

  -- how much of a viewer is: nothing while much of what it did waits
  abbrev pub room_of_viewer : Relay S → ℕ → ℕ
  room_of_viewer relay k = cond (nat_lt (passed_at relay k) 4096) (room_of_seat relay.console k) 0

  pub record OpensDoors (new : Relay S) : Type 0 where
    pub server : space_at_door new 0 ≡ room_of_server new
    pub viewers : (k : ℕ) → k < 8 → space_at_door new (k + 1) ≡ room_of_viewer new k

  -- its viewer, its name, and what is counted for it, are as they were
  pub record KeepsNoted (old new : Relay S) : Type 0 where
    pub coming : new.coming ≡ old.coming
    pub name : new.server_name ≡ old.server_name
    pub passed : new.passed ≡ old.passed

  -- nothing but the console and whether its server is there is new
  pub record KeepsBeside (old new : Relay S) : Type 0 where
    pub noted : KeepsNoted old new
    pub waits : new.to_server ≡ old.to_server

  -- its viewer, what waits for it, and how it went away, are as they were
  pub record KeepsServer (old new : Relay S) : Type 0 where
    pub beside : KeepsBeside old new
    pub presence : new.presence ≡ old.presence

  -- nothing but the console and what waits for its server is new
  pub record KeepsButWaits (old new : Relay S) : Type 0 where
    pub noted : KeepsNoted old new
    pub presence : new.presence ≡ old.presence

  -- the desk is as it was, and all goes on unless there was no memory
  pub record KeepsDeskBy (old new : Relay S) : Type 0 where
    pub desk : new.console.desk ≡ old.console.desk
    pub goes_on : (new.console.outcome ≡ old.console.outcome) ⊎ (new.console.outcome ≡ Some NoMemory)
    pub side : KeepsSide old.console new.console

  -- its viewer is taken out, and nothing else has changed
  pub record TakesViewer (old new : Relay S) : Type 0 where
    pub taken : new.coming ≡ None
    pub console : new.console ≡ old.console
    pub waits : new.to_server ≡ old.to_server
    pub presence : new.presence ≡ old.presence
    pub name : new.server_name ≡ old.server_name

  -- nothing but its name is new
  pub record KeepsButName (old new : Relay S) : Type 0 where
    pub console : new.console ≡ old.console
    pub coming : new.coming ≡ old.coming
    pub waits : new.to_server ≡ old.to_server
    pub presence : new.presence ≡ old.presence

  -- nothing but notes and times of the console
  pub record KeepsHere (old new : Relay S) : Type 0 where
    pub desk : new.console.desk ≡ old.console.desk
    pub outcome : new.console.outcome ≡ old.console.outcome
    pub side : KeepsSide old.console new.console
    pub server : KeepsServer old new

  -- nothing but the desk and what waits, and that all ends where there was no memory
  pub record KeepsButDesk (old new : Relay S) : Type 0 where
    pub server : KeepsButWaits old new
    pub goes_on : (new.console.outcome ≡ old.console.outcome) ⊎ (new.console.outcome ≡ Some NoMemory)
    pub next : new.console.next ≡ old.console.next
    pub side : KeepsSide old.console new.console

  -- nothing but how much is taken at each door
  pub record KeepsAllButRooms (old new : Relay S) : Type 0 where
    pub server : KeepsServer old new
    pub console : KeepsButRooms old.console new.console

  -- at the door of a seat nothing is taken while much of what its viewer did waits for the server
  abbrev pub spared_room : Relay S → ℕ → ℕ
  spared_room relay k = cond (nat_lt (passed_at relay k) 4096) (space_at_door relay (k + 1)) 0

  pub record SparesOne (old : Relay S) (k : ℕ) (new : Relay S) : Type 0 where
    pub keeps : KeepsAllButRooms old new
    pub room : space_at_door new (k + 1) ≡ spared_room old k
    pub others : (d : ℕ) → nat_eq d (k + 1) ≡ false → space_at_door new d ≡ space_at_door old d

  -- so it is at those of the first `count` seats
  pub record SparesUpTo (count : ℕ) (old new : Relay S) : Type 0 where
    pub keeps : KeepsAllButRooms old new
    pub server : space_at_door new 0 ≡ space_at_door old 0
    pub rooms : (k : ℕ) → k < count → space_at_door new (k + 1) ≡ spared_room old k
    pub later : (k : ℕ) → count ≤ k → space_at_door new (k + 1) ≡ space_at_door old (k + 1)

  -- what waits for the server beyond so many bytes is counted as what a viewer did
  pub record CountsPassed (old : Relay S) (k before : ℕ) (new : Relay S) : Type 0 where
    pub count : passed_at new k ≡ counted_on (passed_at old k) (length old.to_server - before)
    pub others : (j : ℕ) → nat_eq j k ≡ false → passed_at new j ≡ passed_at old j
    pub console : new.console ≡ old.console
    pub waits : new.to_server ≡ old.to_server
    pub coming : new.coming ≡ old.coming
    pub presence : new.presence ≡ old.presence

  -- the first `count` bytes that waited for the server have left, and with the last of them what was counted
  pub record Arrives (old : Relay S) (count : ℕ) (new : Relay S) : Type 0 where
    pub waits : new.to_server ≡ drop count old.to_server
    pub passed : (k : ℕ) → k < 8 → passed_at new k ≡ counted_for new.to_server (passed_at old k)
    pub console : new.console ≡ old.console
    pub coming : new.coming ≡ old.coming
    pub presence : new.presence ≡ old.presence
