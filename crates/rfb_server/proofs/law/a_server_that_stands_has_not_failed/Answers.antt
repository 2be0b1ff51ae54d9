use Rattle.rfb_server.proofs.ServerLaws.{server_going}
use Rattle.rfb_server.proofs.law.a_server_that_stands_has_not_failed.Goals as goal

pub returns : goal.returns
returns c = server_going
