use Rattle.rfb_session.proofs.HopAllLemmas.{all_seen, all_passed}
use Rattle.rfb_session.proofs.HopAreaLemmas.{first_all, goes_all}
use Rattle.rfb_session.proofs.law.hops.a_relay_that_asks_for_all_shows_all.Goals as goal

pub returns : goal.returns
returns c' = record {
  first = λ e. first_all e;
  goes = λ e old new reached goes has. goes_all e old new reached goes has;
  answers = λ e l has. has.latest;
  seen = λ e f m earlier run all between. all_seen e f m earlier run all between;
  passed = λ e f m earlier l c run all is latest. all_passed e f m earlier l c run all is latest;
}
