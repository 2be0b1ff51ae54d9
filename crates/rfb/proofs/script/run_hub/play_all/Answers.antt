use Rattle.std.proofs.Common.{◌≡◌, ◌+◌, ◌∙◌, ◌∷◌, [], ◌++◌, List, ap, subst, sym, take, arith}
use Rattle.std.proofs.lemmas.List.{take_all, take_more}
use Rattle.rfb.specs.declared.script.hub.hub_step.HubNumbered.{HubNumbered}
use Rattle.rfb.specs.HubRun.{LeadsHub, hub_events}
use Rattle.rfb.proofs.HubPlayingLemmas.{hub_step_more, leads_none}
use Rattle.rfb.proofs.script.run_hub.play_all.Goals as goal

pub loop-numbered-init : goal.loop-numbered-init
loop-numbered-init g c = leads_none c.args.hub.now

pub loop-numbered-preserved : goal.loop-numbered-preserved
loop-numbered-preserved g c =
    let steps = c.args.steps.now in
    let before = take c.loop-numbered.numbered-index steps in
    let more : take (c.loop-numbered.numbered-index + 1) steps ≡ before ++ c.numbered-item.result ∷ [] =
    take_more steps c.loop-numbered.numbered-index c.numbered-item.result (omega arith)
    ∙ ap (λ (s : HubNumbered). before ++ s ∷ []) (sym c.numbered-item.is) in
    hub_step_more c.args.hub.now c.loop-numbered.hub
    c.play_in_hub.new.hub before (take (c.loop-numbered.numbered-index + 1) steps) c.numbered-item.result more
    c.loop-numbered.invariant c.in_ok-told.ensures.leads

pub returns : goal.returns
returns g c =
    let all = take_all c.loop-numbered.numbered-index c.args.steps.now (omega arith) in
    subst (λ (l : List HubNumbered). LeadsHub c.args.hub.now (hub_events l) c.loop-numbered.hub)
    all c.loop-numbered.invariant
