use Rattle.std.proofs.Common.{List, ℕ, ap}
use Rattle.rfb_session.specs.drive.driver.Driver.{Asked}
use Rattle.rfb_session.proofs.drive.driver.Driver.ask.Goals as goal

pub returns-in-Ok : goal.returns-in-Ok
returns-in-Ok g c =
    let old = c.args.self.now in
    Asked c.send_call.new.viewer c.in-Ok.ensures.called
    (ap (λ (l : List ℕ). record old { viewer = c.send_call.new.viewer; to_server = l }) c.in-Ok.ensures.sent)
