use Rattle.std.proofs.Common.{◌≤◌, ◌-◌, ◌&&◌, nat_eq, nat_lt}
use Rattle.rfb_picture.specs.layout.PlaceSet.{HasLost}
use Rattle.rfb_picture.proofs.place_set.layers.Layers.take_row.Given as goal

-- the cells so far lost their places
abbrev pub invariant-loop-column : goal.invariant-loop-column
invariant-loop-column l = record {
  within : l.from ≤ l.other.used.width;
  lost : HasLost (λ i j. nat_eq j l.row && nat_lt i l.from) l.other l.initial.self l.self;
}

abbrev pub decreases-loop-column : goal.decreases-loop-column
decreases-loop-column l = l.other.used.width - l.from
