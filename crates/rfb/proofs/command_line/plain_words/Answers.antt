use Rattle.std.proofs.Common.{ap, map, arith, List}
use Rattle.std.proofs.lemmas.Grind.{common_steps}
use Rattle.rfb.proofs.command_line.plain_words.Goals as goal
use Rattle.rfb.proofs.command_line.plain_words.Goals.{then-ne+in_ok-push, else-ne}

pub loop-word-init : goal.loop-word-init
loop-word-init g c = ap (λ (l : List _). map (λ word. g.S.AsStr.text word.now) l) c.in_ok-plain.ensures.items

pub loop-word-preserved : goal.loop-word-preserved
loop-word-preserved g c = grind (arith, common_steps)

pub returns : goal.returns
returns g c = grind (arith, common_steps)
