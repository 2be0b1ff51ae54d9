-- The turns of a driver.
use Rattle.std.specs.Prelude.{◌≡◌, ◌≢◌, ℕ, ◌-◌, ◌<◌, ◌^◌, length, nat_le, nat_lt}
use Rattle.std.specs.Prelude.{Bool, true, false, cond, ◌&&◌, not, List, []}
use Rattle.std.specs.Prelude.{Option, Some, None, is_some}
use Rattle.rfb_pixel.specs.declared.colour.Colour.{Colour}
use Rattle.rfb_picture.specs.Grid.{Grid}
use Rattle.rfb_viewer.specs.Model.{picture_of}
use Rattle.rfb_wire.specs.stream.FaultPlace.{counted_on}
use Rattle.rfb_session.specs.console.Time.{begun as first_of}
use Rattle.rfb_session.specs.declared.drive.driver.Driver.{Driver}
use Rattle.rfb_session.specs.declared.drive.driver.Turns.{Turns}
use Rattle.rfb_session.specs.declared.drive.driver.outcome.DriveOutcome.TheVariants as How
use Rattle.rfb_session.specs.declared.drive.driver.saying.Lateness.{Lateness}
use Rattle.rfb_session.specs.drive.driver.Driver.{EndsWith, FinishesIf}
use Rattle.rfb_session.specs.drive.driver.Input.{part_only}
use Rattle.rfb_session.specs.drive.driver.Rigs.{Rigging, Kept}
use Rattle.rfb_session.specs.drive.driver.LineRun.{Rests, RunsLines, is_free, with_task}
use Rattle.rfb_session.specs.drive.driver.Tasks.{due, is_passed, lateness, stamped, wanted}

-- what waits is written until then after the end; else the next turn is wanted when something happens by time
abbrev pub turned_by : Bool → ℕ → Option ℕ → Turns → Turns
turned_by false now due turns = record turns { next = due }
turned_by true now due turns =
    let until = first_of (counted_on now 1000) turns.patience in
    record turns { patience = Some until; is_over = nat_le until now; next = Some until }

-- after the end nothing waits for the server
abbrev pub without_sent : Bool → List ℕ → List ℕ
without_sent true waits = []
without_sent false waits = waits

module _ {R : Type 0} where
  -- the first turn was then
  abbrev pub first_at : ℕ → Driver R → Driver R
  first_at now old = record old { turns = record old.turns { first = Some (first_of now old.turns.first) } }

  -- the line that is under way is done, if it is by time; what changed since the last turn changed now
  abbrev pub Passes : ℕ → Driver R → Driver R → Type 0
  Passes now old new =
      FinishesIf (is_passed old.pace.begun now (stamped now old.pace.task))
      (record old { pace = with_task (stamped now old.pace.task) old.pace }) new

  -- the first update is late, and all ends; or not
  pub data GivesUpFirst (now : ℕ) (old new : Driver R) : Type 0 where
    InTime : nat_lt (now - first_of now old.turns.first) old.pace.limit ≡ true → new ≡ old → GivesUpFirst now old new
    TooLate : nat_lt (now - first_of now old.turns.first) old.pace.limit ≡ false →
        EndsWith (How.Late 0) old new → GivesUpFirst now old new

  -- ---- how much is taken

  -- the rig is read while what has come of its lines is no whole one
  abbrev pub is_heard : Driver R → Bool
  is_heard driver = not (is_some driver.outcome) && part_only driver.input.waiting driver.input.has_ended

  abbrev pub with_rooms : Driver R → Driver R
  with_rooms old =
      record old {
        rooms = record { server = cond (is_free old) 65536 0; orders = cond (is_heard old) 65536 0 };
      }

  -- ---- when the next turn is wanted

  abbrev pub due_when : Bool → ℕ → Driver R → Option ℕ
  due_when true now driver = due driver.pace.begun driver.pace.limit driver.pace.task
  due_when false now driver = Some (counted_on (first_of now driver.turns.first) driver.pace.limit)

  abbrev pub due_at : ℕ → Driver R → Option ℕ
  due_at now driver = due_when driver.is_shown now driver

  abbrev pub with_turns : ℕ → Driver R → Driver R
  with_turns now old =
      record old {
        turns = turned_by (is_some old.outcome) now (due_at now old) old.turns;
        to_server = without_sent (is_some old.outcome) old.to_server;
      }

module _ {R : Type 0} (steps : Rigging R) where
  -- what the screen shows went to the rig, and what is expected of it
  pub data Keeps (old new : Driver R) : Type 0 where
    KeptPicture : (screen : Grid Colour) → picture_of old.viewer ≡ Some screen → (rig : R) →
        steps old.rig (Kept screen (wanted old.pace.task)) rig → new ≡ record old { rig = rig } → Keeps old new
    NothingShown : picture_of old.viewer ≡ None → new ≡ old → Keeps old new

module _ {R : Type 0} (steps : Rigging R) (now : ℕ) where
  -- a line is late: what the screen shows went to the rig, and all ends; or none is, or the first update is
  pub data GivesUp (old new : Driver R) : Type 0 where
    EndedBefore : old.outcome ≢ None → new ≡ old → GivesUp old new
    Silent : old.is_shown ≡ false → GivesUpFirst now old new → GivesUp old new
    NotLate : old.is_shown ≡ true → lateness old.pace.begun old.pace.limit now old.pace.task ≡ None → new ≡ old →
        GivesUp old new
    IsLate : (why : Lateness) → lateness old.pace.begun old.pace.limit now old.pace.task ≡ Some why →
        (kept : Driver R) → Keeps steps old kept → EndsWith (How.Late old.input.count) kept new → GivesUp old new

  -- a turn, but for what is taken before the next one and when that is wanted. The line that is under way may be done
  -- by time, then lines begin, and the last may be late
  pub data GoesOn (old new : Driver R) : Type 0 where
    AllEnded : old.outcome ≢ None → new ≡ old → GoesOn old new
    Went : old.outcome ≡ None → (passed ran : Driver R) → Passes now (first_at now old) passed →
        RunsLines steps now passed ran → (length passed.input.waiting < 2 ^ 64 - 1 → Rests ran) →
        GivesUp ran new → GoesOn old new
