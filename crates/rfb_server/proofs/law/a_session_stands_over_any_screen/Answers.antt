use Rattle.rfb_server.proofs.ServerLaws.{session_over}
use Rattle.rfb_server.proofs.law.a_session_stands_over_any_screen.Goals as goal

pub returns : goal.returns
returns c = session_over
