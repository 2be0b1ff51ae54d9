use Rattle.std.proofs.Common.{subst}
use Rattle.rfb_session.specs.drive.driver.DriverTurn.{Passes, Went}
use Rattle.rfb_session.proofs.DriverLemmas.{none_of}
use Rattle.rfb_session.proofs.drive.driver.Driver.go_on.Goals as goal

pub returns : goal.returns
returns g c =
    Went (none_of c.args.self.now.outcome (cc (c.is_some.ensures, c.if-is_some.false))) c.pass.new.self
    c.run_lines.new.self
    (subst (λ driver. Passes c.args.now driver c.pass.new.self) c.note_first.ensures c.pass.ensures)
    c.run_lines.ensures.runs c.run_lines.ensures.rests c.give_up_if_late.ensures
