use Rattle.rfb_session.proofs.DriveLawLemmas.{none_down}
use Rattle.rfb_session.proofs.drive.laws.no_button_stays_down.Goals as goal

pub returns : goal.returns
returns c = none_down
