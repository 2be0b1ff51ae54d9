use Rattle.rfb_picture.specs.layout.Plane.{ColumnLost}
use Rattle.rfb_picture.proofs.words.take_column.Given as goal

-- the rows so far lost the other's bits
abbrev pub invariant-loop-row : goal.invariant-loop-row
invariant-loop-row l = ColumnLost l.across l.column l.top l.row l.other l.initial.words l.words
