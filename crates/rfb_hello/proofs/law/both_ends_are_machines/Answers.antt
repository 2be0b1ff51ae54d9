use Rattle.rfb_hello.proofs.ServerHelloLemmas.{server_machine}
use Rattle.rfb_hello.proofs.ViewerStepLemmas.{viewer_machine}
use Rattle.rfb_hello.proofs.law.both_ends_are_machines.Goals as goal

pub returns-clause-server : goal.returns-clause-server
returns-clause-server c = server_machine

pub returns-clause-viewer : goal.returns-clause-viewer
returns-clause-viewer c = viewer_machine
