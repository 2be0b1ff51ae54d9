use Rattle.std.proofs.Common.{◌≡◌, ◌*◌, ◌≤◌}
use Rattle.rfb_server.specs.update.Gains.{right_before, claims_row, sum_where, won_by}
use Rattle.rfb_server.proofs.session.Session.won_in.Given as goal

-- the rows so far are counted
abbrev pub invariant-loop-row : goal.invariant-loop-row
invariant-loop-row l = record {
  value : l.won ≡ sum_where (claims_row l.claim l.hint)
      (won_by (right_before l.screen l.self l.hint) l.hint.to) l.row;
  few : l.won ≤ l.row * l.hint.to.w;
}
