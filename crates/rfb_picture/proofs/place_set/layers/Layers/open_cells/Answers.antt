use Rattle.std.proofs.Common.{arith}
use Rattle.rfb_picture.proofs.place_set.layers.Layers.open_cells.Goals as goal

pub loop-row-preserved : goal.loop-row-preserved
loop-row-preserved c = grind arith
