use Rattle.std.proofs.Common.{take, All}
use Rattle.rfb_session.specs.World.{Reaches, HasFewBytes}
use Rattle.rfb_session.proofs.RunLemmas.{Any}
use Rattle.rfb_session.proofs.world.World.run.Given as goal

abbrev pub invariant-loop-event : goal.invariant-loop-event
invariant-loop-event l = record {
  few : All HasFewBytes l.events;
  runs : Reaches l.fn.self (take l.event-index l.events) l.self Any;
}
