use Rattle.std.proofs.Common.{arith}
use Rattle.rfb_picture.proofs.place_set.layers.Layers.open_row.Goals as goal

pub loop-column-preserved : goal.loop-column-preserved
loop-column-preserved c = grind arith
