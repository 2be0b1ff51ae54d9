use Rattle.rfb_viewer.proofs.MovedLemmas.{moving_machine}
use Rattle.rfb_viewer.proofs.law.a_viewer_with_its_copies_is_a_machine.Goals as goal

pub returns : goal.returns
returns c = moving_machine
