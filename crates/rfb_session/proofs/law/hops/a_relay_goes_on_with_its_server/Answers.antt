use Rattle.rfb_session.proofs.HopCallLemmas.{relay_requested, relay_sent}
use Rattle.rfb_session.proofs.HopEndLemmas.{relay_above, seat_fed, relay_heard, relay_never}
use Rattle.rfb_session.proofs.law.hops.a_relay_goes_on_with_its_server.Goals as goal

pub returns : goal.returns
returns c = record {
  above = λ e f share viewer had to_server to_viewer has sends gets m n relay there goes fed.
      relay_above e f share viewer had to_server to_viewer has sends gets m n relay there goes fed;
  seat = λ e server j viewer to_server on_way n w. seat_fed e server j viewer to_server on_way n w;
  heard = λ e f old new bytes told has to_server to_viewer later k viewer sends gets m made feeds is relay behind.
      (relay_heard e f old new bytes told has to_server to_viewer later k viewer sends gets m made feeds is relay
      behind).becomes;
  never_refused = λ e old new bytes fault has to_server to_viewer later m some is fails relay.
      relay_never e old new bytes fault has to_server to_viewer later m some is fails relay;
  requested = λ e f old new was incremental rect before after has to_server to_viewer k viewer sends gets m there makes
      relay behind. (relay_requested e f old new was incremental rect before after has to_server to_viewer k viewer
      sends gets m there makes relay behind).0;
  sent = λ e f old new was call event before after has to_server to_viewer k viewer sends gets m there makes plain is
      relay behind. (relay_sent e f old new was call event before after has to_server to_viewer k viewer sends gets m
      there makes plain is relay behind).becomes;
}
