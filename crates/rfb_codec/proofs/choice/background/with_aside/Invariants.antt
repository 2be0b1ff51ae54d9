use Rattle.std.proofs.Common.{◌-◌, length}
use Rattle.rfb_codec.proofs.TallyLemmas.{PassedTo}
use Rattle.rfb_codec.proofs.choice.background.with_aside.Given as goal

abbrev pub invariant-loop-start : goal.invariant-loop-start
invariant-loop-start g l = PassedTo l.sorted l.start l.fn.better l.fn.most l.better l.most

abbrev pub decreases-loop-start : goal.decreases-loop-start
decreases-loop-start g l = length l.sorted - l.start
