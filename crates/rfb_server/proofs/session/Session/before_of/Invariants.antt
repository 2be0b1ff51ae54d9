use Rattle.std.proofs.Common.{◌+◌, ◌-◌}
use Rattle.rfb_server.specs.update.Gains.{right_before}
use Rattle.rfb_server.proofs.RightRowsLemmas.{IsCountTo}
use Rattle.rfb_server.proofs.session.Session.before_of.Given as goal

-- the places so far are counted
abbrev pub invariant-loop-x : goal.invariant-loop-x
invariant-loop-x l = IsCountTo (right_before l.screen l.self l.row) l.row.to l.x l.count

abbrev pub decreases-loop-x : goal.decreases-loop-x
decreases-loop-x l = l.row.to.x + l.row.to.w - l.x
