use Rattle.rfb_session.proofs.DriveHistoryLemmas.{all_run}
use Rattle.rfb_session.proofs.drive.laws.lines_are_run_however_they_come.Goals as goal

pub returns : goal.returns
returns g c = λ old new events goes runs. all_run g.R.Rig.steps old new events goes runs
