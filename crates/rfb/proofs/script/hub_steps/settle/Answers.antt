use Rattle.std.proofs.Common.{arith, refl}
use Rattle.rfb.proofs.HubPlayingLemmas.{eight_leads, turn_leads, turn_tells}
use Rattle.rfb.proofs.script.hub_steps.settle.Goals as goal

pub loop-turn-preserved : goal.loop-turn-preserved
loop-turn-preserved c =
    let l = c.loop-turn in
    record {
      leads = turn_leads c.args.slot l._turn c.args.hub.now l.hub c.step_in.new.hub c.step_in-in-loop-turn.new.hub _ _
          c.in_ok-server.server c.in_ok-viewer.viewer refl refl l.invariant.leads
          c.in_ok-server.ensures.steps c.in_ok-viewer.ensures.steps c.in_ok-server.ensures.stands
          c.in_ok-viewer.ensures.stands;
      told = turn_tells c.args.slot l._turn c.args.hub.now l.hub c.step_in.new.hub c.step_in-in-loop-turn.new.hub l.all
          c.with.result c.with-all.result _ _ c.in_ok-server.server c.in_ok-viewer.viewer refl refl l.invariant.told
          c.in_ok-server.ensures.steps c.in_ok-viewer.ensures.steps c.with.ensures.refused c.with.ensures.ended
          c.with-all.ensures.refused c.with-all.ensures.ended;
    }

pub returns-clause-leads : goal.returns-clause-leads
returns-clause-leads c =
    eight_leads c.args.slot c.loop-turn._turn c.args.hub.now c.loop-turn.hub (omega arith) c.loop-turn.invariant.leads
