use Rattle.rfb_session.proofs.NetworkLemmas.{headline_holds}
use Rattle.rfb_session.proofs.ShareCallLemmas.{watched_going, watched_arrived}
use Rattle.rfb_session.proofs.law.viewers.a_viewer_of_a_seat_shows_the_screen.Goals as goal

pub returns : goal.returns
returns c = record {
  going = λ e share k viewer to_server on_way n w.
      watched_going e share k viewer to_server on_way n w;
  headline = λ e share k viewer to_server on_way n w. headline_holds e n w.reached;
  arrived = λ e share k viewer to_server n stored waits w shows.
      watched_arrived e share k viewer to_server n stored waits w shows;
}
