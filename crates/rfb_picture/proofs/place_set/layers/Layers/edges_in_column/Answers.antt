use Rattle.std.proofs.Common.{arith}
use Rattle.std.proofs.lemmas.Grind.{common_steps}
use Rattle.rfb_picture.specs.layout.PlaceSet.{in_set}
use Rattle.rfb_picture.proofs.CellLemmas.{rows_done}
use Rattle.rfb_picture.proofs.place_set.layers.Layers.edges_in_column.Goals as goal

pub returns : goal.returns
returns c = rows_done (in_set c.args.self.now) c.args.zone c.loop-row.row c.loop-row.found
    (omega arith) c.loop-row.invariant

pub loop-row-preserved : goal.loop-row-preserved
loop-row-preserved c = grind (arith, common_steps)
