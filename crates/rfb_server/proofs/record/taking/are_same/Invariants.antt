use Rattle.rfb_server.proofs.AlikeLemmas.{AreSameRows}
use Rattle.rfb_server.proofs.record.taking.are_same.Given as goal

-- the rows so far are the same
abbrev pub invariant-loop-line : goal.invariant-loop-line
invariant-loop-line l = AreSameRows l.rect l.line l.pixels l.other
