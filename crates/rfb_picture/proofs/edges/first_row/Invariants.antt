use Rattle.std.proofs.Common.{◌+◌, ◌*◌, ◌≤◌, max}
use Rattle.rfb_picture.specs.layout.Plane.{has_masked}
use Rattle.rfb_picture.specs.layout.Edges.{NoMarks}
use Rattle.rfb_picture.proofs.edges.first_row.Given as goal

-- the rows so far have no mark
abbrev pub invariant-loop-left : goal.invariant-loop-left
invariant-loop-left l = record {
  order : l.top ≤ l.from;
  left : l.from + l.left * 4 ≤ max l.top l.bottom;
  none : NoMarks (has_masked l.words l.strip.across l.strip.column l.strip.mask) l.top l.from;
}

abbrev pub decreases-loop-left : goal.decreases-loop-left
decreases-loop-left l = l.left

abbrev pub invariant-loop-row : goal.invariant-loop-row
invariant-loop-row l = record {
  order : l.top ≤ l.row;
  none : NoMarks (has_masked l.words l.strip.across l.strip.column l.strip.mask) l.top l.row;
}
