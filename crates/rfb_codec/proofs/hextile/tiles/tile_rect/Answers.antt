use Rattle.std.proofs.Common.{arith}
use Rattle.rfb_codec.proofs.hextile.tiles.tile_rect.Goals as goal

pub overflow_sub-height : goal.overflow_sub-height
overflow_sub-height c = grind arith

pub returns-clause-inside : goal.returns-clause-inside
returns-clause-inside c = grind arith
