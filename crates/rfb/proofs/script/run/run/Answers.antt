use Rattle.rfb.proofs.LeavingLemmas.{leaves_played}
use Rattle.rfb.proofs.PlayingLemmas.{is_played, on_ok_both}
use Rattle.rfb.proofs.script.run.run.Goals as goal

pub returns-clause-done : goal.returns-clause-done
returns-clause-done g c = λ made.
    let script = c.args.script.now in
    on_ok_both _ _ _ c.finish-finished.result
    (λ taken shown. (
      c.finish-finished.new.world,
      is_played script.screen script.wants script.steps.items c.in_ok-world.world c.finish-finished.new.world
          c.in_ok-world.ensures (rw c.deref.ensures.value at taken) made,
      shown,
    ))
    c.finish-finished.ensures.taken c.finish-finished.ensures.shown

pub returns-clause-left : goal.returns-clause-left
returns-clause-left g c = λ made.
    let script = c.args.script.now in
    leaves_played g.W.Write.contents c.args.context.now.output.now c.finish-finished.new.context.output.now _
    c.finish-finished.new.world c.finish-finished.result
    script.screen script.wants script.steps.items c.finish-finished.ensures.left
    (λ taken. is_played script.screen script.wants script.steps.items c.in_ok-world.world c.finish-finished.new.world
    c.in_ok-world.ensures (rw c.deref.ensures.value at taken) made)
