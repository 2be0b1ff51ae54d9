use Rattle.rfb.specs.HubRun.{hub_events}
use Rattle.rfb.proofs.HubPlayingLemmas.{is_hub_played, leaves_hub}
use Rattle.rfb.proofs.PlayingLemmas.{on_ok_both}
use Rattle.rfb.proofs.script.run_hub.run_hub.Goals as goal

pub returns-clause-done : goal.returns-clause-done
returns-clause-done g c =
    let script = c.args.script.now in
    let fresh = c.in_ok-hub.ensures in
    on_ok_both _ _ _ c.finish.result
    (λ led shown. (
      c.finish.new.hub,
      is_hub_played script.screen (hub_events script.steps.items) c.in_ok-hub.hub c.finish.new.hub fresh.empty
          fresh.black fresh.made fresh.stands led,
      shown,
    ))
    c.finish.ensures.led c.finish.ensures.shown

pub returns-clause-left : goal.returns-clause-left
returns-clause-left g c =
    let script = c.args.script.now in
    let fresh = c.in_ok-hub.ensures in
    leaves_hub g.W.Write.contents c.args.context.now.output.now c.finish.new.context.output.now _
    c.finish.new.hub c.finish.result
    script.screen script.steps.items script.shown c.finish.ensures.left
    (λ led. is_hub_played script.screen (hub_events script.steps.items) c.in_ok-hub.hub c.finish.new.hub fresh.empty
    fresh.black fresh.made fresh.stands led)
