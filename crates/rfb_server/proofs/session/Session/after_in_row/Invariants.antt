use Rattle.std.proofs.Common.{◌+◌, ◌-◌}
use Rattle.rfb_server.specs.update.Gains.{right_after}
use Rattle.rfb_server.proofs.RightRowsLemmas.{IsCountTo}
use Rattle.rfb_server.proofs.session.Session.after_in_row.Given as goal

-- the places so far are counted
abbrev pub invariant-loop-x : goal.invariant-loop-x
invariant-loop-x l = IsCountTo (right_after l.screen l.self l.row) l.row.to l.x l.count

abbrev pub decreases-loop-x : goal.decreases-loop-x
decreases-loop-x l = l.row.to.x + l.row.to.w - l.x
