use Rattle.std.proofs.Common.{arith}
use Rattle.rfb_picture.proofs.area.Area.bounds_in.Goals as goal

pub returns : goal.returns
returns c = grind arith
