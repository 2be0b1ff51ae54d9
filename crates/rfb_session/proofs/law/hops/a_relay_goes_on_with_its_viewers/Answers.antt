use Rattle.rfb_session.proofs.HopCallLemmas.{relay_came, relay_below, relay_beside}
use Rattle.rfb_session.proofs.law.hops.a_relay_goes_on_with_its_viewers.Goals as goal

pub returns : goal.returns
returns c = record {
  came = λ e f old new has to_server to_viewer k viewer m same relay none w.
      relay_came e f old new has to_server to_viewer k viewer m same relay none w;
  below = λ e f old new has to_server to_viewer k viewer sends gets l m same relay there goes.
      relay_below e f old new has to_server to_viewer k viewer sends gets l m same relay there goes;
  beside = λ e f old new has to_server to_viewer k viewer sends gets m same stays relay behind.
      relay_beside e f old new has to_server to_viewer k viewer sends gets m same stays relay behind;
}
