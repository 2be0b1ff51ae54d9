use Rattle.std.proofs.Common.{subst, sym}
use Rattle.rfb.specs.declared.script.line.Step.{Step as ScriptStep}
use Rattle.rfb.specs.ScriptRun.{TakesStep, TellsRefusal}
use Rattle.rfb.proofs.PlayingLemmas.{one_event}
use Rattle.rfb.proofs.script.steps.play.Goals as goal

pub returns-in_ok-step-in-Event-clause-taken : goal.returns-in_ok-step-in-Event-clause-taken
returns-in_ok-step-in-Event-clause-taken c =
    subst (λ (s : ScriptStep). TakesStep c.args.world.now s c.step.new.self) (sym c.in-Event.is)
    (one_event c.args.world.now c.step.new.self c.in-Event.event c.in_ok-step-in-Event.field-0
    c.in_ok-step-in-Event.ensures.does)

pub returns-in_ok-step-in-Event-clause-told : goal.returns-in_ok-step-in-Event-clause-told
returns-in_ok-step-in-Event-clause-told c =
    subst (λ (s : ScriptStep). TellsRefusal c.args.world.now s c.in_ok-step-in-Event.field-0.refused)
    (sym c.in-Event.is)
    (λ e n made reached stands. (c.in_ok-step-in-Event.ensures.does e n made reached stands).2.refused)

pub returns-in_ok-settle-in-Settle-clause-taken : goal.returns-in_ok-settle-in-Settle-clause-taken
returns-in_ok-settle-in-Settle-clause-taken c =
    subst (λ (s : ScriptStep). TakesStep c.args.world.now s c.settle.new.world) (sym c.in-Settle.is)
    c.in_ok-settle-in-Settle.ensures
