use Rattle.std.proofs.Common.{◌+◌, ◌*◌, ◌<◌, ◌≤◌}
use Rattle.rfb_picture.specs.layout.Plane.{has_masked}
use Rattle.rfb_picture.specs.layout.Edges.{NoMarks}
use Rattle.rfb_picture.proofs.edges.last_row.Given as goal

-- the rows below have no mark
abbrev pub invariant-loop-left : goal.invariant-loop-left
invariant-loop-left l = record {
  above : l.top + l.left * 4 < l.end;
  below : l.end ≤ l.bottom;
  none : NoMarks (has_masked l.words l.strip.across l.strip.column l.strip.mask) l.end l.bottom;
}

abbrev pub decreases-loop-left : goal.decreases-loop-left
decreases-loop-left l = l.left

abbrev pub invariant-loop-last : goal.invariant-loop-last
invariant-loop-last l =
    (l.top ≤ l.last) × (l.last < l.fn.bottom)
    × NoMarks (has_masked l.words l.strip.across l.strip.column l.strip.mask) (l.last + 1) l.fn.bottom

abbrev pub decreases-loop-last : goal.decreases-loop-last
decreases-loop-last l = l.last
