use Rattle.rfb_server.proofs.ServerLaws.{client_bytes_spelled, client_bytes_laws}
use Rattle.rfb_server.proofs.law.client_bytes_are_spelled.Goals as goal

pub returns-clause-stream : goal.returns-clause-stream
returns-clause-stream c = client_bytes_spelled

pub returns-clause-laws : goal.returns-clause-laws
returns-clause-laws c = client_bytes_laws
