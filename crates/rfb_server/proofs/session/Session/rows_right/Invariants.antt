use Rattle.std.proofs.Common.{◌≡◌, ◌*◌}
use Rattle.rfb_server.specs.Composition.{count_rows}
use Rattle.rfb_server.specs.update.Gains.{right_after}
use Rattle.rfb_server.proofs.session.Session.rows_right.Given as goal

-- the rows so far have it at each place
abbrev pub invariant-loop-row : goal.invariant-loop-row
invariant-loop-row l =
    count_rows (right_after l.screen l.self l.hint) l.hint.to.x l.hint.to.y l.hint.to.w l.row ≡ l.row * l.hint.to.w
