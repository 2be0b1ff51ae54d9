use Rattle.rfb_session.proofs.NetworkLemmas.{reached_holds}
use Rattle.rfb_session.proofs.FlightLemmas.{viewer_moved, server_moved}
use Rattle.rfb_session.proofs.law.bytes_that_reach_an_end_move_the_link.Goals as goal

pub returns-clause-viewer : goal.returns-clause-viewer
returns-clause-viewer c = λ e network f bytes later rest event t made reached flies gets takes.
    viewer_moved e network.screen network.link f bytes later rest event t made
    (reached_holds e network reached) flies gets takes

pub returns-clause-server : goal.returns-clause-server
returns-clause-server c = λ e network f bytes later rest event t made reached flies gets takes.
    server_moved e network.screen network.link f bytes later rest event t made
    (reached_holds e network reached) flies gets takes
