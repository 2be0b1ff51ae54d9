use Rattle.std.proofs.Common.{◌+◌, ◌-◌, ◌*◌, min}
use Rattle.rfb_picture.specs.layout.Edges.{HasEdges}
use Rattle.rfb_picture.specs.layout.PlaceSet.{in_set}
use Rattle.rfb_picture.proofs.place_set.layers.Layers.edges_in.Given as goal

-- the edges of the places in the columns of cells so far
abbrev pub invariant-loop-column : goal.invariant-loop-column
invariant-loop-column l =
    HasEdges (in_set l.self) (record l.zone { w = min (l.zone.x + l.zone.w) (l.column * 64) - l.zone.x }) l.found
