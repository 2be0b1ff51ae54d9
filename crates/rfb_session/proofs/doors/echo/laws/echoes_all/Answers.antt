use Rattle.rfb_session.proofs.EchoLemmas.{echoes_then}
use Rattle.rfb_session.proofs.doors.echo.laws.echoes_all.Goals as goal

pub returns : goal.returns
returns c = echoes_then
