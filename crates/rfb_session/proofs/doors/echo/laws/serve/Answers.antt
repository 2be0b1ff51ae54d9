use Rattle.rfb_session.proofs.EchoLemmas.{leaves}
use Rattle.rfb_session.proofs.doors.echo.laws.serve.Goals as goal

pub returns : goal.returns
returns g c =
    leaves g.D.Device.unread g.D.Device.written g.D.Device.failed g.D.Device.stands
    c.new-core.result c.run.new.core c.args.doors.now c.run.new.doors c.new-core.ensures c.run.ensures
