use Rattle.std.proofs.Common.{◌-◌, ◌≤◌}
use Rattle.rfb_server.proofs.claim.stale.Stale.add.Given as goal

abbrev pub invariant-loop-at : goal.invariant-loop-at
invariant-loop-at l = l.at ≤ 7

abbrev pub decreases-loop-at : goal.decreases-loop-at
decreases-loop-at l = 8 - l.at
