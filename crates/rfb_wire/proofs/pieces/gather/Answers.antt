use Rattle.std.proofs.Common.{arith}
use Rattle.std.proofs.lemmas.Grind.{common_steps}
use Rattle.rfb_wire.proofs.pieces.gather.Goals as goal

pub returns-then-bytes-missing-clause-more : goal.returns-then-bytes-missing-clause-more
returns-then-bytes-missing-clause-more g c = grind (arith, common_steps)
