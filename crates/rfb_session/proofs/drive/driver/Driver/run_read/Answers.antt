use Rattle.rfb_session.specs.drive.driver.LineRun.{Bad, Begun}
use Rattle.rfb_session.proofs.drive.driver.Driver.run_read.Goals as goal

pub returns-in-Ok : goal.returns-in-Ok
returns-in-Ok g c = Begun c.in-Ok.said c.in-Ok.ensures c.begin.ensures

pub returns-in-Err : goal.returns-in-Err
returns-in-Err g c = Bad c.in-Err.why c.in-Err.ensures c.refuse.ensures
