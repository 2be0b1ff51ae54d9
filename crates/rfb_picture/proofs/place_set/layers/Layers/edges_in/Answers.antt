use Rattle.std.proofs.Common.{◌+◌, arith}
use Rattle.rfb_picture.specs.layout.PlaceSet.{in_set}
use Rattle.rfb_picture.specs.layout.Cells.{in_column}
use Rattle.rfb_picture.proofs.CellLemmas.{columns_to, columns_more, columns_done}
use Rattle.rfb_picture.proofs.place_set.layers.Layers.edges_in.Goals as goal

pub loop-column-preserved : goal.loop-column-preserved
loop-column-preserved c =
    let z = c.args.zone in
    let column = c.loop-column.column in
    let here = rw c.in_column.ensures at c.edges_in_column-here.ensures in
    c.joined-found.ensures (in_set c.args.self.now) (columns_to z column) (in_column z column)
    (columns_to z (column + 1))
    (λ x y. columns_more z column x y c.loop-column.auto.column) c.loop-column.invariant here

pub returns : goal.returns
returns c = columns_done (in_set c.args.self.now) c.args.zone c.loop-column.column
    c.loop-column.found (omega arith) c.loop-column.invariant
