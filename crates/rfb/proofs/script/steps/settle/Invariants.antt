-- The turns so far led to this world.
use Rattle.rfb.specs.ScriptRun.{deliveries}
use Rattle.rfb_session.specs.World.{Reaches}
use Rattle.rfb_session.proofs.RunLaws.{Any}
use Rattle.rfb.proofs.script.steps.settle.Given as goal

abbrev pub invariant-loop-turn : goal.invariant-loop-turn
invariant-loop-turn l = Reaches l.initial.world (deliveries l._turn) l.world Any
