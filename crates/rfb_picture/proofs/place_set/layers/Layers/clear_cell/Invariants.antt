use Rattle.rfb_picture.proofs.NotedLemmas.{AreCleared}
use Rattle.rfb_picture.proofs.place_set.layers.Layers.clear_cell.Given as goal

-- the rows that are not left have no mark
abbrev pub invariant-loop-left : goal.invariant-loop-left
invariant-loop-left l = AreCleared l.column l.row l.left l.initial.self l.self

abbrev pub decreases-loop-left : goal.decreases-loop-left
decreases-loop-left l = l.left
