use Rattle.std.proofs.Common.{◌≡◌, ◌+◌, ◌≤◌}
use Rattle.rfb_server.specs.Composition.{count_rows}
use Rattle.rfb_server.specs.update.Gains.{right_before, right_after}
use Rattle.rfb_server.proofs.session.Session.has_more_right.Given as goal

-- both are counted of the rows so far, those before the copy from row `top` on
abbrev pub invariant-loop-row : goal.invariant-loop-row
invariant-loop-row l = record {
  order : l.top ≤ l.row;
  after : l.after ≡ count_rows (right_after l.screen l.self l.hint) l.to.x l.to.y l.to.w l.row;
  before : l.before + count_rows (right_before l.screen l.self l.hint) l.to.x l.to.y l.to.w l.top
      ≡ count_rows (right_before l.screen l.self l.hint) l.to.x l.to.y l.to.w l.row;
}
