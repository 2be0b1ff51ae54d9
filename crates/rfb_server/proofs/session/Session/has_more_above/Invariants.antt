use Rattle.std.proofs.Common.{◌≡◌, ◌+◌}
use Rattle.rfb_server.specs.Composition.{count_rows}
use Rattle.rfb_server.specs.update.Gains.{right_before}
use Rattle.rfb_server.proofs.session.Session.has_more_above.Given as goal

-- the rows so far are counted too
abbrev pub invariant-loop-row : goal.invariant-loop-row
invariant-loop-row l =
    l.before ≡ l.below + count_rows (right_before l.screen l.self l.hint) l.hint.to.x l.hint.to.y l.hint.to.w l.row
