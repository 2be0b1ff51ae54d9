-- The lines so far are in order.
use Rattle.rfb_picture.specs.layout.Lines.{AreInOrder}
use Rattle.rfb_picture.proofs.picture.lines.lines_of.Given as goal

abbrev pub invariant-loop-row : goal.invariant-loop-row
invariant-loop-row l = AreInOrder l.row l.lines.items
