use Rattle.std.proofs.Common.{None, OnOk, refl, subst, sym}
use Rattle.rfb.specs.declared.script.hub.hub_step.HubStep.{HubStep}
use Rattle.rfb.specs.HubRun.{LeadsHub, TellsLine, hub_events_of}
use Rattle.rfb.proofs.HubPlayingLemmas.{leads_one, tells_one}
use Rattle.rfb.proofs.script.hub_steps.play_in_hub.Goals as goal

pub returns-in_ok-step-in-Event-clause-leads : goal.returns-in_ok-step-in-Event-clause-leads
returns-in_ok-step-in-Event-clause-leads c =
    subst (λ (s : HubStep). LeadsHub c.args.hub.now (hub_events_of s) c.step.new.self) (sym c.in-Event.is)
    (leads_one c.args.hub.now c.step.new.self c.in-Event.event c.in_ok-step-in-Event.field-0
    c.in_ok-step-in-Event.ensures.steps c.in_ok-step-in-Event.ensures.stands)

pub returns-in_ok-step-in-Event-clause-told : goal.returns-in_ok-step-in-Event-clause-told
returns-in_ok-step-in-Event-clause-told c =
    subst (λ (s : HubStep). TellsLine c.args.hub.now (hub_events_of s) c.with.result c.step.new.self)
    (sym c.in-Event.is)
    (tells_one c.args.hub.now c.step.new.self (record { refused = None; ended = 0 })
    c.with.result c.in-Event.event c.in_ok-step-in-Event.field-0 refl refl c.in_ok-step-in-Event.ensures.steps
    c.with.ensures.refused c.with.ensures.ended)

pub returns-in-Settle-clause-leads : goal.returns-in-Settle-clause-leads
returns-in-Settle-clause-leads c =
    subst (λ (s : HubStep). OnOk c.settle.result (LeadsHub c.args.hub.now (hub_events_of s) c.settle.new.hub))
    (sym c.in-Settle.is) c.settle.ensures.leads
