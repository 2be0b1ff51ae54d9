use Rattle.rfb_viewer.proofs.LeastLemmas.{damage_holds, damage_within}
use Rattle.rfb_viewer.proofs.law.damage_is_the_least_rectangle.Goals as goal

pub returns-clause-held : goal.returns-clause-held
returns-clause-held c = damage_holds

pub returns-clause-least : goal.returns-clause-least
returns-clause-least c = damage_within
