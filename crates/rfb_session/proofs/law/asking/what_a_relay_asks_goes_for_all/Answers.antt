use Rattle.rfb_session.proofs.HopCallLemmas.{relay_sent}
use Rattle.rfb_session.proofs.HopEndLemmas.{relay_opens, relay_renews, relay_heard}
use Rattle.rfb_session.proofs.HopFedLemmas.{fed_next}
use Rattle.rfb_session.proofs.HopRelayLemmas.{relay_asks, relay_begins}
use Rattle.rfb_session.proofs.law.asking.what_a_relay_asks_goes_for_all.Goals as goal

pub returns : goal.returns
returns g c = record {
  fed = λ e old new bytes event has to_server to_viewer later n made is fed f.
      let one = fed_next e old new bytes event has to_server to_viewer later n made is fed f in
      record { goes = one.0; for_all = one.2 };
  begins = λ e old new was now reply width height name name_length bytes has to_server to_viewer later n made is fed f
      begins goes there. relay_begins e old new was now reply width height name name_length bytes has to_server
      to_viewer later n made is fed f begins goes there;
  opens = λ e share old new bytes has to_server to_viewer later n made is fed there f.
      relay_opens e share old new bytes has to_server to_viewer later n made is fed there f;
  renews = λ e f old new was other bytes has to_server to_viewer later k viewer sends gets m n made is fed shows have
      screen behind. relay_renews e f old new was other bytes has to_server to_viewer later k viewer sends gets m n
      made is fed shows have screen behind;
  heard = λ e f old new bytes told has to_server to_viewer later k viewer sends gets m made feeds is relay behind.
      relay_heard e f old new bytes told has to_server to_viewer later k viewer sends gets m made feeds is relay behind;
  asks = λ e f old new asked before after has to_server to_viewer k viewer sends gets m asks relay behind.
      relay_asks e f old new asked before after has to_server to_viewer k viewer sends gets m asks relay behind;
  sent = λ e f old new was call event before after has to_server to_viewer k viewer sends gets m there makes plain is
      relay behind. relay_sent e f old new was call event before after has to_server to_viewer k viewer sends gets m
      there makes plain is relay behind;
}
