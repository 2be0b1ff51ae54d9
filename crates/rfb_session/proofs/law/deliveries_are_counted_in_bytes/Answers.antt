use Rattle.rfb_session.proofs.MoveLemmas.{viewer_flight, server_flight, viewer_moves_join, server_moves_join}
use Rattle.rfb_session.proofs.law.deliveries_are_counted_in_bytes.Goals as goal

pub returns : goal.returns
returns c = record {
  viewer = viewer_flight;
  server = server_flight;
  viewer_joins = viewer_moves_join;
  server_joins = λ e network b c' n m one two. server_moves_join e network.screen network.link b c' n m one two;
}
