use Rattle.std.proofs.Common.{arith}
use Rattle.std.proofs.lemmas.Grind.{common_steps}
use Rattle.rfb_codec.proofs.hextile.paint.drawing.sub_at.Goals as goal

pub returns-then-colored : goal.returns-then-colored
returns-then-colored c = grind (arith, common_steps)
