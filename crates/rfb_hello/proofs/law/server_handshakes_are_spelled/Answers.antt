use Rattle.rfb_hello.proofs.ServerStreamLaws.{server_handshake_spelled, server_handshake_laws}
use Rattle.rfb_hello.proofs.law.server_handshakes_are_spelled.Goals as goal

pub returns-clause-stream : goal.returns-clause-stream
returns-clause-stream c = server_handshake_spelled

pub returns-clause-laws : goal.returns-clause-laws
returns-clause-laws c = server_handshake_laws
