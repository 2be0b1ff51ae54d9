use Rattle.rfb_viewer.proofs.ViewerLaws.{server_bytes_spelled, server_bytes_laws}
use Rattle.rfb_viewer.proofs.law.server_bytes_are_spelled.Goals as goal

pub returns-clause-stream : goal.returns-clause-stream
returns-clause-stream c = server_bytes_spelled

pub returns-clause-laws : goal.returns-clause-laws
returns-clause-laws c = server_bytes_laws
