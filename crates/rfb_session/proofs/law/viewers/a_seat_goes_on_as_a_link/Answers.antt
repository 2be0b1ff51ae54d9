use Rattle.rfb_session.proofs.ShareViewerLemmas.{watched_joined, watched_drawn, watched_received}
use Rattle.rfb_session.proofs.ShareViewerLemmas.{watched_never, watched_written}
use Rattle.rfb_session.proofs.ShareUpdateLemmas.{watched_composed}
use Rattle.rfb_session.proofs.ShareBesideLemmas.{watched_wanted}
use Rattle.rfb_session.proofs.law.viewers.a_seat_goes_on_as_a_link.Goals as goal

pub returns : goal.returns
returns c = record {
  joined = λ e old new joined k viewer made fresh joins is.
      watched_joined e old new joined k viewer made fresh joins is;
  drawn = λ e old new drawing k viewer to_server on_way n inside draws w.
      watched_drawn e old new drawing k viewer to_server on_way n inside draws w;
  received = λ e old new k bytes told viewer to_server later on_way n made is receives w.
      watched_received e old new k bytes told viewer to_server later on_way n made is receives w;
  never_refused = λ e old new k bytes fault viewer to_server later on_way n some is refuses w.
      watched_never e old new k bytes fault viewer to_server later on_way n some is refuses w;
  written = λ e old new k count viewer to_server on_way n writes w.
      watched_written e old new k count viewer to_server on_way n writes w;
  composed = λ e old new k told viewer to_server on_way n composes w.
      watched_composed e old new k told viewer to_server on_way n composes w;
  wanted = λ old new k wants. watched_wanted old new k wants;
}
