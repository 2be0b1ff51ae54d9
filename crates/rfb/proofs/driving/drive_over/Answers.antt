use Rattle.std.proofs.Common.{sym}
use Rattle.rfb.specs.Drive.{DrivesUntil, EndsUndone, FailsDriveFor}
use Rattle.rfb.proofs.OutcomeLemmas.{driven_well, ends_for, ends_ill, until}
use Rattle.rfb.proofs.driving.drive_over.Goals as goal

pub returns-clause-done : goal.returns-clause-done
returns-clause-done g c =
    driven_well c.args.options c.outcome.result c.drive_result-ended.result
    (until c.driver_of-driver.result c.live.new.core c.outcome.result c.live.ensures.tenants.happenings
    c.driver_of-driver.ensures c.live.ensures.tenants.goes (sym c.outcome.ensures))
    c.drive_result-ended.ensures.well

pub returns-clause-stopped : goal.returns-clause-stopped
returns-clause-stopped g c =
    ends_for (DrivesUntil _ c.args.options) FailsDriveFor c.outcome.result c.drive_result-ended.result _ _
    (until c.driver_of-driver.result c.live.new.core c.outcome.result c.live.ensures.tenants.happenings
    c.driver_of-driver.ensures c.live.ensures.tenants.goes (sym c.outcome.ensures))
    c.drive_result-ended.ensures.failure

pub returns-clause-left : goal.returns-clause-left
returns-clause-left g c =
    ends_ill (DrivesUntil _ c.args.options) EndsUndone c.outcome.result c.drive_result-ended.result _ _
    (until c.driver_of-driver.result c.live.new.core c.outcome.result c.live.ensures.tenants.happenings
    c.driver_of-driver.ensures c.live.ensures.tenants.goes (sym c.outcome.ensures))
    c.drive_result-ended.ensures.ill
