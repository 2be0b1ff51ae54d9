use Rattle.std.proofs.Common.{length}
use Rattle.rfb_session.proofs.share.tests.send.Given as goal

abbrev pub decreases-loop-rest : goal.decreases-loop-rest
decreases-loop-rest l = length l.rest
