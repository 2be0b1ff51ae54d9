use Rattle.std.proofs.Common.{◌+◌, ◌-◌, ◌*◌, min}
use Rattle.rfb_picture.specs.layout.Edges.{HasEdges}
use Rattle.rfb_picture.specs.layout.PlaceSet.{in_set}
use Rattle.rfb_picture.proofs.place_set.layers.Layers.edges_in_column.Given as goal

-- the edges of the places in the rows of cells so far
abbrev pub invariant-loop-row : goal.invariant-loop-row
invariant-loop-row l =
    HasEdges (in_set l.self) (record l.zone { h = min (l.zone.y + l.zone.h) (l.row * 64) - l.zone.y }) l.found
