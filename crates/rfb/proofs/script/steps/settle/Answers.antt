use Rattle.std.proofs.Common.{[], ◌∷◌, refl, arith}
use Rattle.rfb_session.specs.declared.event.Event.TheVariants.{ToServer, ToViewer}
use Rattle.rfb_session.proofs.RunLaws.{run_none}
use Rattle.rfb.proofs.PlayingLemmas.{eight_turns, turn_more}
use Rattle.rfb.proofs.script.steps.settle.Goals as goal

pub loop-turn-init : goal.loop-turn-init
loop-turn-init c = run_none c.args.world.now

pub loop-turn-preserved : goal.loop-turn-preserved
loop-turn-preserved c =
    turn_more c.loop-turn._turn c.args.world.now c.loop-turn.world c.run.new.self
    (ToServer 4294967295 ∷ ToViewer 4294967295 ∷ []) refl c.loop-turn.invariant c.in_ok-run.ensures.steps

pub returns : goal.returns
returns c = eight_turns c.loop-turn._turn c.args.world.now c.loop-turn.world (omega arith) c.loop-turn.invariant
