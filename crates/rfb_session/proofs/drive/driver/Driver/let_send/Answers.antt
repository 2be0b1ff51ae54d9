use Rattle.std.proofs.Common.{◌==◌, ℕ, sym, subst}
use Rattle.rfb_session.specs.drive.driver.Driver.{FinishesIf}
use Rattle.rfb_session.specs.drive.driver.LineRun.{Sent, sending}
use Rattle.rfb_session.proofs.DriverLemmas.{went}
use Rattle.rfb_session.proofs.drive.driver.Driver.let_send.Goals as goal

pub returns : goal.returns
returns g c =
    let old = c.args.self.now in
    let waits = c.send.new.self in
    Sent waits (went c.send.result _ (sym c.if-is_err.ensures.value) c.send.ensures.sent)
    (subst (λ (n : ℕ). FinishesIf (n == 0)
    (record old { to_server = waits; pace = sending n c.args.at old.pace }) c.finish_if.new.self) c.len-left.ensures
    c.finish_if.ensures)
