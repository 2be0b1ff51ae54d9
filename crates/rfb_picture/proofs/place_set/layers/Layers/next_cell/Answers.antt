use Rattle.std.proofs.Common.{arith}
use Rattle.rfb_picture.proofs.place_set.layers.Layers.next_cell.Goals as goal

pub returns-then-has_some : goal.returns-then-has_some
returns-then-has_some c = grind arith

pub returns : goal.returns
returns c = grind arith
