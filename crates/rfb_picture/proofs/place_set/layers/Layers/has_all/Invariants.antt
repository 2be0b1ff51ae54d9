use Rattle.rfb_picture.specs.Places.{AllMarked}
use Rattle.rfb_picture.specs.layout.PlaceSet.{in_set}
use Rattle.rfb_picture.proofs.CellLemmas.{columns_to}
use Rattle.rfb_picture.proofs.place_set.layers.Layers.has_all.Given as goal

-- the set has the zone's places in the columns of cells so far
abbrev pub invariant-loop-column : goal.invariant-loop-column
invariant-loop-column l = AllMarked (in_set l.self) (columns_to l.zone l.column)
