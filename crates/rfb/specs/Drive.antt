-- What a drive of a server does, as far as its core shows it: all that happens to the core is what its doors bring, and
-- what leaves there.
use Rattle.std.specs.Prelude.{◌≡◌, ⊤, ℕ, ◌*◌, List, Option, Some, None}
use Rattle.rfb_session.specs.doors.Tenants.{Goes}
use Rattle.rfb_session.specs.relay.Setup.{viewing_by}
use Rattle.rfb_session.specs.declared.drive.driver.Driver.{Driver}
use Rattle.rfb_session.specs.declared.drive.driver.DriverSetup.{DriverSetup}
use Rattle.rfb_session.specs.declared.drive.driver.outcome.DriveOutcome.{DriveOutcome}
use Rattle.rfb_session.specs.declared.drive.driver.outcome.DriveOutcome.TheVariants as ends
use Rattle.rfb_session.specs.drive.driver.Driver.{IsFreshDriver}
use Rattle.rfb_session.specs.drive.driver.Steps.{DriverSteps, LetsIn, TurnsAway}
use Rattle.rfb_session.specs.drive.driver.Rigs.{RigStep}
use Rattle.rfb.specs.Outcomes.{HappensUntil, LeavesCore}
use Rattle.rfb.specs.Ends.{engine_fault}
use Rattle.rfb.specs.Recording.{viewing_of}
use Rattle.rfb.specs.declared.driving.drive_words.DriveOptions.{DriveOptions}
use Rattle.rfb.specs.declared.driving.rig.FileRig.{FileRig}
use Rattle.rfb.specs.declared.fault.Failure.{Failure}
use Rattle.rfb.specs.declared.fault.Failure.TheVariants as failures
use Rattle.rfb.specs.declared.fault.Fault.TheVariants as faults
use Rattle.rfb.specs.declared.fault.Undone.TheVariants as undone

-- what options ask for; their times are seconds, and those of a setup are milliseconds
pub record IsDriveSetup (options : DriveOptions) (setup : DriverSetup) : Type 0 where
  pub limit : setup.limit ≡ 1000 * options.timeout
  pub tells : setup.tells_changes ≡ options.tells_changes
  pub viewer : viewing_by setup.viewer ≡ viewing_of options.wants.format options.wants.encodings.items

-- a driver that was told nothing, as options ask for it; P has the files
abbrev pub IsDriverOf : (P : Type 0) → DriveOptions → Driver (FileRig P) → Type 0
IsDriverOf P options driver =
    (setup : DriverSetup) × (rig : FileRig P) × IsDriveSetup options setup
    × IsFreshDriver setup rig driver

-- of what a file has or takes nothing is known
abbrev pub AnyStep : (P : Type 0) → FileRig P → RigStep → FileRig P → Type 0
AnyStep P old step new = ⊤

-- these happened to a driver of the options, in this order, and nothing else did; so it has ended, or
-- has not
abbrev pub DrivesUntil : (P : Type 0) → DriveOptions → Option DriveOutcome → Type 0
DrivesUntil P options outcome =
    HappensUntil (IsDriverOf P options) (Goes (DriverSteps (AnyStep P)) LetsIn TurnsAway)
    (λ (driver : Driver (FileRig P)). driver.outcome) outcome

-- all lines are done
abbrev pub EndsDone : Option DriveOutcome → Type 0
EndsDone outcome = outcome ≡ Some ends.Done

-- or not all
abbrev pub EndsUndone : Option DriveOutcome → Type 0
EndsUndone outcome = EndsDone outcome → ⊥

-- a drive whose lines are all done
abbrev pub Drives : (P : Type 0) → DriveOptions → Type 0
Drives P options = DrivesUntil P options (Some ends.Done)

-- one that fails: nothing was written before there was a driver, or not all lines are done
abbrev pub LeavesDrive : (P : Type 0) → DriveOptions → Option (List ℕ) → Option (List ℕ) → Type 0
LeavesDrive P options before after = LeavesCore (DrivesUntil P options) EndsUndone before after

-- why the command fails for an outcome, if it does
abbrev pub drive_failure : DriveOutcome → Option Failure
drive_failure ends.Done = None
drive_failure (ends.BadLine number) = Some (failures.BadLine number)
drive_failure (ends.Late number) = Some (failures.Undone number undone.Late)
drive_failure (ends.File number) = Some (failures.Undone number undone.File)
drive_failure (ends.ServerGone why) = Some (failures.Engine (engine_fault why))
drive_failure ends.NoMemory = Some (failures.Fault faults.NoMemory)
drive_failure ends.Device = Some (failures.Fault faults.Device)

-- the command fails so; where the core does not say that it has ended, waiting has failed
abbrev pub FailsDriveFor : Option DriveOutcome → Failure → Type 0
FailsDriveFor None failure = failure ≡ failures.Fault faults.Device
FailsDriveFor (Some outcome) failure = drive_failure outcome ≡ Some failure

-- and why: by how it has ended, if anything was written
abbrev pub FailsToDrive : (P : Type 0) → DriveOptions → Option (List ℕ) → Option (List ℕ) → Failure →
    Type 0
FailsToDrive P options before after failure =
    LeavesCore (DrivesUntil P options) (λ outcome. FailsDriveFor outcome failure) before after
