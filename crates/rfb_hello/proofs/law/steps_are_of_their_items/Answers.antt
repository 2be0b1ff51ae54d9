use Rattle.rfb_hello.proofs.ToldOfLaws.{server_ready_at, screen_at, viewer_ready_at}
use Rattle.rfb_hello.proofs.law.steps_are_of_their_items.Goals as goal

pub returns-clause-server : goal.returns-clause-server
returns-clause-server c = server_ready_at

pub returns-clause-screen : goal.returns-clause-screen
returns-clause-screen c = screen_at

pub returns-clause-viewer : goal.returns-clause-viewer
returns-clause-viewer c = viewer_ready_at
