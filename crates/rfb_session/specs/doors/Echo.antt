-- An echo of two doors: what came at one waits at the other.
use Rattle.std.specs.Prelude.{◌≡◌, ℕ, ◌-◌, ◌≤◌, ◌==◌, Bool, ◌&&◌, List, [], ◌++◌, Option, length}
use Rattle.std.specs.Prelude.{if◌then◌else◌}
use Rattle.std.specs.Io.KnownBytes.{Appends, Consumes}
use Rattle.arrayvec.specs.ArrayVec.{array_vec_len}
use Rattle.rfb_session.specs.declared.doors.echo.Echo.{Echo}
use Rattle.rfb_session.specs.doors.Events.{Event, came, left, came_by, left_by}
use Rattle.rfb_session.specs.doors.Devices.{known_at}

-- the door at which bytes of a door wait
abbrev pub other : ℕ → ℕ
other d = if d == 0 then 1 else (if d == 1 then 0 else d)

abbrev pub waiting_at : Echo → ℕ → List ℕ
waiting_at echo d = if d == 0 then echo.first.items else (if d == 1 then echo.second.items else [])

-- how many bytes fit at the other door; none come once a door has ended
abbrev pub space_at : Echo → ℕ → ℕ
space_at echo d =
    if d == 0 then (if echo.first_ended then 0 else 64 - array_vec_len echo.second)
    else (if d == 1 then (if echo.second_ended then 0 else 64 - array_vec_len echo.first) else 0)

-- both have ended
abbrev pub closed_at : Echo → ℕ → Bool
closed_at echo d = echo.first_ended && echo.second_ended

-- what leaves and what waits then is what waited and what came at the other door, in this order
abbrev pub Echoes : Echo → Event → Echo → Type 0
Echoes old event new =
    (d : ℕ) → left_by d event ++ waiting_at new d ≡ waiting_at old d ++ came_by (other d) event

-- the same of events one after the other
abbrev pub EchoesAll : Echo → List Event → Echo → Type 0
EchoesAll old events new =
    (d : ℕ) → left d events ++ waiting_at new d ≡ waiting_at old d ++ came (other d) events

-- what was written at a door is what was read at the other, but for the last few bytes
pub record LeavesBeginning {D : Type 0} (unread written : D → Option (List ℕ)) (doors doors' : List D)
    (d : ℕ) : Type 0 where
  pub got : List ℕ
  pub sent : List ℕ
  pub rest : List ℕ
  pub parts : got ≡ sent ++ rest
  pub few : length rest ≤ 64
  pub reads : Consumes (known_at unread doors (other d)) (known_at unread doors' (other d)) got
  pub writes : Appends (known_at written doors d) (known_at written doors' d) sent
