use Rattle.rfb_picture.specs.layout.Plane.{ColumnAdded}
use Rattle.rfb_picture.proofs.words.add_column.Given as goal

-- the rows so far have the mask's bits too
abbrev pub invariant-loop-row : goal.invariant-loop-row
invariant-loop-row l = ColumnAdded l.across l.column l.top l.row l.mask l.initial.words l.words
