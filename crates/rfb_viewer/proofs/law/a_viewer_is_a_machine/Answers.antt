use Rattle.rfb_viewer.proofs.ViewerLaws.{viewer_machine}
use Rattle.rfb_viewer.proofs.law.a_viewer_is_a_machine.Goals as goal

pub returns : goal.returns
returns c = viewer_machine
