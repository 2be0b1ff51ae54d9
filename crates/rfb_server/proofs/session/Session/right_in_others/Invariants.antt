use Rattle.std.proofs.Common.{◌≡◌, ◌*◌, ◌≤◌, not}
use Rattle.rfb_server.specs.update.Gains.{right_before, right_after, claims_row, sum_where, counts}
use Rattle.rfb_server.proofs.session.Session.right_in_others.Given as goal

-- the rows so far are counted
abbrev pub invariant-loop-row : goal.invariant-loop-row
invariant-loop-row l = record {
  before : l.before ≡ sum_where (λ row. not (claims_row l.claim l.hint row))
      (counts (right_before l.screen l.self l.hint) l.hint.to) l.row;
  after : l.after ≡ sum_where (λ row. not (claims_row l.claim l.hint row))
      (counts (right_after l.screen l.self l.hint) l.hint.to) l.row;
  few : (l.before ≤ l.row * l.hint.to.w) × (l.after ≤ l.row * l.hint.to.w);
}
