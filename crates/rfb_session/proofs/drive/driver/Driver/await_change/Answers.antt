use Rattle.std.proofs.Common.{sym}
use Rattle.rfb_session.specs.drive.driver.LineRun.{PartOff}
use Rattle.rfb_session.proofs.drive.driver.Driver.await_change.Goals as goal

pub returns-then-not-has_part : goal.returns-then-not-has_part
returns-then-not-has_part g c = PartOff c.in-Some.part c.in-Some.is (sym c.if-not-has_part.ensures) c.refuse.ensures
