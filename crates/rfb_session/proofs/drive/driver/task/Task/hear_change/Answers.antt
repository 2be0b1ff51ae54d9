use Rattle.std.proofs.Common.{refl}
use Rattle.rfb_session.proofs.drive.driver.task.Task.hear_change.Goals as goal

pub returns-in-Expect : goal.returns-in-Expect
returns-in-Expect c = rw c.in-Expect.is (c.hear_change.new.self, c.hear_change.ensures, refl)
