use Rattle.rfb_session.proofs.ShareCallLemmas.{watched_requested, watched_formatted, watched_plain}
use Rattle.rfb_session.proofs.ShareViewerLemmas.{watched_shown}
use Rattle.rfb_session.proofs.law.viewers.a_viewer_of_a_seat_goes_on_as_a_link.Goals as goal

pub returns : goal.returns
returns c = record {
  shown = λ e share k old new bytes later event to_server on_way n made is fed w.
      watched_shown e share k old new bytes later event to_server on_way n made is fed w;
  requested = λ e share k old new incremental rect bytes to_server on_way n asks spelled w.
      watched_requested e share k old new incremental rect bytes to_server on_way n asks spelled w;
  format = λ e share k old new form bytes to_server on_way n asks spelled w.
      watched_formatted e share k old new form bytes to_server on_way n asks spelled w;
  sent = λ e share k viewer message event bytes to_server on_way n may is spelled w.
      watched_plain e share k viewer message event bytes to_server on_way n may is spelled w;
}
