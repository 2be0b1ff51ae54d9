use Rattle.std.proofs.Common.{arith}
use Rattle.std.proofs.lemmas.Grind.{common_steps}
use Rattle.rfb_wire.proofs.client_head.ClientHead.of_whole.Goals as goal

pub returns-in-0 : goal.returns-in-0
returns-in-0 c = grind (arith, common_steps)
