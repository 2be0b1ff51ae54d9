use Rattle.rfb_session.proofs.HopEndLemmas.{relay_opens, relay_renews}
use Rattle.rfb_session.proofs.HopFedLemmas.{fed_first, fed_next, fed_requested}
use Rattle.rfb_session.proofs.law.hops.a_relay_meets_its_server.Goals as goal

pub returns : goal.returns
returns c = record {
  first = λ e screen viewer stands wide high. fed_first e screen viewer stands wide high;
  fed = λ e old new bytes event has to_server to_viewer later n made is fed f.
      (fed_next e old new bytes event has to_server to_viewer later n made is fed f).0;
  requested = λ e old new incremental rect bytes has to_server to_viewer n asks spelled f.
      (fed_requested e old new incremental rect bytes has to_server to_viewer n asks spelled f).0;
  opens = λ e share old new bytes has to_server to_viewer later n made is fed there f.
      (relay_opens e share old new bytes has to_server to_viewer later n made is fed there f).opens;
  renews = λ e f old new was other bytes has to_server to_viewer later k viewer sends gets m n made is fed shows have
      screen behind. (relay_renews e f old new was other bytes has to_server to_viewer later k viewer sends gets m n
      made is fed shows have screen behind).renews;
}
