use Rattle.rfb_hello.proofs.StandingLaws.{server_stands, viewer_stands}
use Rattle.rfb_hello.proofs.law.ends_that_stand_have_not_failed.Goals as goal

pub returns-clause-server : goal.returns-clause-server
returns-clause-server c = server_stands

pub returns-clause-viewer : goal.returns-clause-viewer
returns-clause-viewer c = viewer_stands
