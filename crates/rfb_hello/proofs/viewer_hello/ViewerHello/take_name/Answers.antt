use Rattle.std.proofs.Common.{arith}
use Rattle.std.proofs.lemmas.Grind.{common_steps}
use Rattle.rfb_hello.proofs.viewer_hello.ViewerHello.take_name.Goals as goal

pub returns-then-not-whole : goal.returns-then-not-whole
returns-then-not-whole c = grind (arith, common_steps)

pub returns : goal.returns
returns c = grind (arith, common_steps)
