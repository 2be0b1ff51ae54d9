use Rattle.std.proofs.Common.{arith}
use Rattle.std.proofs.lemmas.Grind.{common_steps}
use Rattle.rfb_codec.proofs.hextile.paint.reading.find_colour.Goals as goal

pub returns-then-bytes-at : goal.returns-then-bytes-at
returns-then-bytes-at c = grind (arith, common_steps)

pub returns : goal.returns
returns c = grind (arith, common_steps)
