use Rattle.rfb_session.proofs.HopSeatLemmas.{watched_fed, watched_failed, watched_other, watched_made}
use Rattle.rfb_session.proofs.law.hops.a_seat_goes_on_as_a_picture_does.Goals as goal

pub returns : goal.returns
returns c = record {
  fed = λ e old new bytes told k viewer to_server on_way n feeds w.
      watched_fed e old new bytes told k viewer to_server on_way n feeds w;
  failed = λ e old new bytes fault k viewer to_server on_way n fails w.
      watched_failed e old new bytes fault k viewer to_server on_way n fails w;
  shown = λ e old new other k viewer to_server on_way n shows w.
      watched_other e old new other k viewer to_server on_way n shows w;
  called = λ old new was call before result after k makes.
      watched_made old new was call before result after k makes;
}
