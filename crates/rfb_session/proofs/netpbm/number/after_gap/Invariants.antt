-- What follows the gap is what follows the rest of it.
use Rattle.std.proofs.Common.{◌≡◌, false, length}
use Rattle.rfb_session.specs.netpbm.Gaps.{after_gap}
use Rattle.rfb_session.proofs.netpbm.number.after_gap.Given as goal

abbrev pub invariant-loop-rest : goal.invariant-loop-rest
invariant-loop-rest l = after_gap l.is_comment l.rest ≡ after_gap false l.bytes

abbrev pub decreases-loop-rest : goal.decreases-loop-rest
decreases-loop-rest l = length l.rest
