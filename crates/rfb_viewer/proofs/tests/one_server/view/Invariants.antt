-- Each call takes a byte.
use Rattle.std.proofs.Common.{length}
use Rattle.rfb_viewer.proofs.tests.one_server.view.Given as goal

abbrev pub decreases-loop-rest : goal.decreases-loop-rest
decreases-loop-rest l = length l.rest
