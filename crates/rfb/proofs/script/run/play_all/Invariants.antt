-- The steps so far led to this world.
use Rattle.std.proofs.Common.{take}
use Rattle.rfb_session.specs.World.{Reaches}
use Rattle.rfb_session.proofs.RunLaws.{Any}
use Rattle.rfb.specs.ScriptRun.{all_events}
use Rattle.rfb.proofs.script.run.play_all.Given as goal

abbrev pub invariant-loop-numbered : goal.invariant-loop-numbered
invariant-loop-numbered g l = Reaches l.initial.world (all_events (take l.numbered-index l.steps)) l.world Any
