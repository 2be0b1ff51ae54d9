use Rattle.std.proofs.Common.{refl}
use Rattle.rfb_session.specs.drive.driver.Tasks.{Unmet}
use Rattle.rfb_session.proofs.drive.driver.task.Expected.hear_change.Goals as goal

pub returns-in-Differs : goal.returns-in-Differs
returns-in-Differs c =
    Unmet c.in-Differs.unlike (cc (c.touches.ensures, c.rect_of.ensures, c.if-not-touches.false))
    c.in-Differs.ensures refl refl
