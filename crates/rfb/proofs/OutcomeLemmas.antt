-- How a command that runs a core ends, by what happened to the core.
use Rattle.std.proofs.Common.{◌≡◌, ℕ, List, Option, Result, Ok, Err, IfErr, OnOk, OnErr, subst, inr}
use Rattle.rfb_session.specs.declared.drive.driver.outcome.DriveOutcome.{DriveOutcome}
use Rattle.rfb_session.specs.doors.Tenants.{Happening}
use Rattle.rfb.specs.declared.driving.drive_words.DriveOptions.{DriveOptions}
use Rattle.rfb.specs.declared.fault.Failure.{Failure}
use Rattle.rfb.specs.Outcomes.{HappensUntil, LeavesCore}
use Rattle.rfb.specs.Drive.{Drives, DrivesUntil, EndsDone}

-- what happened to it, and that nothing else did
pub until : {K O : Type 0} {Asked : K → Type 0} {Goes : K → List Happening → K → Type 0} {outcome_of : K → O}
    (old new : K) (outcome : O) (happenings : List Happening) → Asked old → Goes old happenings new →
    outcome_of new ≡ outcome → HappensUntil Asked Goes outcome_of outcome
until old new outcome happenings asked goes ends =
    record { old = old; new = new; asked = asked; happenings = happenings; goes = goes; ends = ends }

module _ {O : Type 0} (Until : O → Type 0) where
  -- a command that is done has a core that has ended so
  pub ends_well : (Well : O → Type 0) (outcome : O) (result : Result Unit Failure) → Until outcome →
      OnOk result (Well outcome) → OnOk result ((o : O) × Until o × Well o)
  ends_well Well outcome (Ok u) until well = (outcome, until, well)
  ends_well Well outcome (Err failure) until well = tt

  -- and one that is not has one that has not, or has ended so
  pub ends_ill : (Ill : O → Type 0) (outcome : O) (result : Result Unit Failure)
      (before after : Option (List ℕ)) → Until outcome → OnErr result (Ill outcome) →
      OnErr result (LeavesCore Until Ill before after)
  ends_ill Ill outcome (Ok u) before after until ill = tt
  ends_ill Ill outcome (Err failure) before after until ill = inr (outcome, until, ill)

  -- and fails for it
  pub ends_for : (Why : O → Failure → Type 0) (outcome : O) (result : Result Unit Failure)
      (before after : Option (List ℕ)) → Until outcome → IfErr result (Why outcome) →
      IfErr result (λ failure. LeavesCore Until (λ o. Why o failure) before after)
  ends_for Why outcome (Ok u) before after until fails = tt
  ends_for Why outcome (Err failure) before after until fails = inr (outcome, until, fails)

-- ---- a drive

-- all lines are done
pub driven_well : {P : Type 0} (options : DriveOptions) (outcome : Option DriveOutcome)
    (result : Result Unit Failure) → DrivesUntil P options outcome → OnOk result (EndsDone outcome) →
    OnOk result (Drives P options)
driven_well {P} options outcome (Ok u) until well =
    subst (λ (o : Option DriveOutcome). DrivesUntil P options o) well until
driven_well options outcome (Err failure) until well = tt
