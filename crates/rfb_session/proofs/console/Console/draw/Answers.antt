use Rattle.std.proofs.Common.{refl}
use Rattle.rfb_session.specs.console.Console.{Done}
use Rattle.rfb_session.proofs.console.Console.draw.Goals as goal

pub returns-then-draw-clause-draws : goal.returns-then-draw-clause-draws
returns-then-draw-clause-draws g c = Done _ _ c.in-Some.is refl (c.draw.result, c.draw.ensures)

pub returns-else-draw-clause-draws : goal.returns-else-draw-clause-draws
returns-else-draw-clause-draws g c = Done _ _ c.in-Some.is refl (c.draw.result, c.draw.ensures)
