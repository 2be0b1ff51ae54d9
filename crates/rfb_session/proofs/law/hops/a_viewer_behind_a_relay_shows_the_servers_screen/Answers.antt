use Rattle.rfb_session.proofs.HopRunLemmas.{above_holds, below_holds, seen_holds, passed_holds}
use Rattle.rfb_session.proofs.law.hops.a_viewer_behind_a_relay_shows_the_servers_screen.Goals as goal

pub returns-clause-above : goal.returns-clause-above
returns-clause-above c = λ e f m earlier run. above_holds e f m earlier run

pub returns-clause-below : goal.returns-clause-below
returns-clause-below c = λ e f m earlier l run is. below_holds e f m earlier l run is

pub returns-clause-seen : goal.returns-clause-seen
returns-clause-seen c = λ e f m earlier run between. seen_holds e f m earlier run between

pub returns-clause-passed : goal.returns-clause-passed
returns-clause-passed c' = λ e f m earlier l c run is latest. passed_holds e f m earlier l c run is latest
