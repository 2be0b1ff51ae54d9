use Rattle.rfb_session.proofs.DriveLawLemmas.{quiet_before}
use Rattle.rfb_session.proofs.drive.laws.nothing_is_slept_past.Goals as goal

pub returns : goal.returns
returns c = quiet_before
