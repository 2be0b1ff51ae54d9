use Rattle.rfb_picture.specs.Places.{AllMarked}
use Rattle.rfb_picture.specs.layout.PlaceSet.{in_set}
use Rattle.rfb_picture.proofs.CellLemmas.{rows_to}
use Rattle.rfb_picture.proofs.place_set.layers.Layers.has_all_in_column.Given as goal

-- the set has the zone's places in the rows of cells so far
abbrev pub invariant-loop-row : goal.invariant-loop-row
invariant-loop-row l = AllMarked (in_set l.self) (rows_to l.zone l.row)
