use Rattle.rfb_viewer.proofs.ViewerLaws.{viewer_going}
use Rattle.rfb_viewer.proofs.law.a_viewer_that_stands_has_not_failed.Goals as goal

pub returns : goal.returns
returns c = viewer_going
