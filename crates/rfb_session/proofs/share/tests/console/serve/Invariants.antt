use Rattle.std.proofs.Common.{length}
use Rattle.rfb_session.proofs.share.tests.console.serve.Given as goal

abbrev pub decreases-loop-seat-2 : goal.decreases-loop-seat-2
decreases-loop-seat-2 l = length l.rest
