use Rattle.std.proofs.Common.{◌+◌, ◌*◌, ◌≤◌}
use Rattle.rfb_picture.specs.layout.Edges.{HasAllBits, HasNoOtherBits}
use Rattle.rfb_picture.proofs.edges.all_bits.Given as goal

-- the bits are those of the rows so far
abbrev pub invariant-loop-left : goal.invariant-loop-left
invariant-loop-left l = record {
  order : l.top ≤ l.from;
  left : l.from + l.left * 4 ≤ l.bottom;
  each : HasAllBits l.words l.across l.column l.top l.from l.bits;
  some : HasNoOtherBits l.words l.across l.column l.top l.from l.bits;
}

abbrev pub decreases-loop-left : goal.decreases-loop-left
decreases-loop-left l = l.left

abbrev pub invariant-loop-row : goal.invariant-loop-row
invariant-loop-row l = record {
  order : l.top ≤ l.row;
  each : HasAllBits l.words l.across l.column l.top l.row l.bits;
  some : HasNoOtherBits l.words l.across l.column l.top l.row l.bits;
}
