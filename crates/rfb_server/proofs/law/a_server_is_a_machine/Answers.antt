use Rattle.rfb_server.proofs.ServerLaws.{server_machine}
use Rattle.rfb_server.proofs.law.a_server_is_a_machine.Goals as goal

pub returns : goal.returns
returns c = server_machine
