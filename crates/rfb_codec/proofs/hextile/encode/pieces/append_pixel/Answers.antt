use Rattle.std.proofs.Common.{arith}
use Rattle.rfb_codec.proofs.hextile.encode.pieces.append_pixel.Goals as goal

pub returns-clause-items : goal.returns-clause-items
returns-clause-items c = grind arith

pub returns-clause-len : goal.returns-clause-len
returns-clause-len c = grind arith
