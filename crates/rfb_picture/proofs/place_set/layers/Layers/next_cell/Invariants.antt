use Rattle.std.proofs.Common.{◌≤◌, ◌-◌, ◌*◌}
use Rattle.rfb_picture.specs.CellOrder.{NoneInCells}
use Rattle.rfb_picture.specs.layout.PlaceSet.{in_set}
use Rattle.rfb_picture.proofs.place_set.layers.Layers.next_cell.Given as goal

-- the cells so far have no place of the set
abbrev pub invariant-loop-cell : goal.invariant-loop-cell
invariant-loop-cell l = record {
  order : l.from ≤ l.at;
  none : NoneInCells (in_set l.self) l.self.places.width l.self.places.height l.from l.at;
}

abbrev pub decreases-loop-cell : goal.decreases-loop-cell
decreases-loop-cell l = l.self.full.width * l.self.full.height - l.at
