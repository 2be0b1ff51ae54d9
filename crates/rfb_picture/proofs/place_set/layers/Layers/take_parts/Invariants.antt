use Rattle.std.proofs.Common.{◌≤◌, ◌-◌, nat_lt}
use Rattle.rfb_picture.specs.layout.PlaceSet.{HasLost}
use Rattle.rfb_picture.proofs.place_set.layers.Layers.take_parts.Given as goal

-- the rows of cells so far lost their places
abbrev pub invariant-loop-row : goal.invariant-loop-row
invariant-loop-row l = record {
  lost : HasLost (λ _ j. nat_lt j l.row) l.other l.initial.self l.self;
  within : l.row ≤ l.rows;
}

abbrev pub decreases-loop-row : goal.decreases-loop-row
decreases-loop-row l = l.rows - l.row
