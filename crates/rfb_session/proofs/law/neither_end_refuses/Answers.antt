use Rattle.rfb_session.proofs.FlightLemmas.{viewer_good, server_good}
use Rattle.rfb_session.proofs.law.neither_end_refuses.Goals as goal

pub returns-clause-viewer : goal.returns-clause-viewer
returns-clause-viewer c = viewer_good

pub returns-clause-server : goal.returns-clause-server
returns-clause-server c =
    λ e network f bytes later fault flies gets refuses.
    server_good e network.screen network.link f bytes later fault flies gets refuses
