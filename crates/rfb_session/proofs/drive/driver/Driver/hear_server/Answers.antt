use Rattle.std.proofs.Common.{Ok, refl}
use Rattle.rfb_session.specs.drive.driver.Driver.{FailedAt, Met}
use Rattle.rfb_session.proofs.MirrorLemmas.{takes, fails_at}
use Rattle.rfb_session.proofs.drive.driver.Driver.hear_server.Goals as goal

pub returns-in-Ok-clause-hears : goal.returns-in-Ok-clause-hears
returns-in-Ok-clause-hears g c =
    let e = c.in-Ok.ensures in
    Met c.feed.new.self c.in-Ok.field-0
    (takes c.args.self.now.viewer c.feed.new.self c.args.bytes.now (Ok c.in-Ok.field-0) e.used e.all e.some e.fed
    e.damage e.moved e.taken e.made) refl c.meet.ensures

pub returns-in-Err-clause-hears : goal.returns-in-Err-clause-hears
returns-in-Err-clause-hears g c =
    let e = c.in-Err.ensures in
    FailedAt c.feed.new.self c.in-Err.fault
    (fails_at c.args.self.now.viewer c.feed.new.self c.args.bytes.now _ e.fails e.failed e.fault e.memory e.picture
    e.damaged e.unmoved e.reason e.place e.made) refl c.lose_server.ensures
