use Rattle.std.proofs.Common.{All}
use Rattle.rfb_session.specs.World.{HasFewBytes}
use Rattle.rfb_session.proofs.world.tests.lists.events_of.Given as goal

abbrev pub invariant-loop-turn : goal.invariant-loop-turn
invariant-loop-turn l = All HasFewBytes l.events.items
