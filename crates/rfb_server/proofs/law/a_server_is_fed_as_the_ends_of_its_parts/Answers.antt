use Rattle.rfb_server.proofs.ServerParts.{serves_first, serves_second}
use Rattle.rfb_server.proofs.law.a_server_is_fed_as_the_ends_of_its_parts.Goals as goal

pub returns-clause-handshake : goal.returns-clause-handshake
returns-clause-handshake c = serves_first

pub returns-clause-messages : goal.returns-clause-messages
returns-clause-messages c = serves_second
