use Rattle.rfb_hello.proofs.ClientHandshakeLaws.{client_handshake_spelled, client_handshake_laws}
use Rattle.rfb_hello.proofs.law.client_handshakes_are_spelled.Goals as goal

pub returns-clause-stream : goal.returns-clause-stream
returns-clause-stream c = client_handshake_spelled

pub returns-clause-laws : goal.returns-clause-laws
returns-clause-laws c = client_handshake_laws
