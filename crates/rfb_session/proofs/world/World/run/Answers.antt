use Rattle.std.proofs.Common.{List, sym, subst, arith}
use Rattle.std.proofs.lemmas.List.{take_all}
use Rattle.rfb_session.specs.declared.event.Event.{Event}
use Rattle.rfb_session.specs.Headline.{IsHeadline, ShowsKnown, ShowsLatest, due_picture}
use Rattle.rfb_session.specs.World.{Reaches, NeitherFailed}
use Rattle.rfb_session.proofs.NetworkLemmas.{headline_holds}
use Rattle.rfb_session.proofs.RunLemmas.{Any, item_taken, run_more, run_holds, neither_failed}
use Rattle.rfb_session.proofs.world.World.run.Goals as goal

pub loop-event-preserved : goal.loop-event-preserved
loop-event-preserved c = record {
  few = c.loop-event.invariant.few;
  runs = subst (λ (events : List Event). Reaches c.args.self.now events c.step.new.self Any)
      (sym (item_taken c.args.events.now c.loop-event.event-index c.event-item.result (omega arith)
      c.event-item.is))
      (run_more c.args.self.now c.loop-event.self c.step.new.self _
      c.event-item.result c.in_ok-step.field-0 c.loop-event.invariant.runs
      c.in_ok-step.ensures.does);
}

pub returns-clause-steps : goal.returns-clause-steps
returns-clause-steps c =
    let all = take_all c.loop-event.event-index c.args.events.now (omega arith) in
    subst (λ (events : List Event). Reaches c.args.self.now events c.loop-event.self Any) all
    c.loop-event.invariant.runs

pub returns-clause-neither_failed : goal.returns-clause-neither_failed
returns-clause-neither_failed c =
    run_holds c.args.self.now c.loop-event.self c.args.events.now
    (λ e n. NeitherFailed c.loop-event.self)
    (λ e m reached stands. neither_failed e c.loop-event.self m stands) (returns-clause-steps c)

pub returns-clause-known : goal.returns-clause-known
returns-clause-known c =
    run_holds c.args.self.now c.loop-event.self c.args.events.now
    (λ e n. ShowsKnown n.link.session.form n.link.session.known (due_picture e n.link))
    (λ e m reached stands. (headline_holds e m reached).known) (returns-clause-steps c)

pub returns-clause-latest : goal.returns-clause-latest
returns-clause-latest c =
    run_holds c.args.self.now c.loop-event.self c.args.events.now
    (λ e n. ShowsLatest n.link.latest (due_picture e n.link))
    (λ e m reached stands. (headline_holds e m reached).latest) (returns-clause-steps c)

pub returns-clause-headline : goal.returns-clause-headline
returns-clause-headline c =
    run_holds c.args.self.now c.loop-event.self c.args.events.now
    (λ e n. NeitherFailed c.loop-event.self × IsHeadline e n.link)
    (λ e m reached stands. (neither_failed e c.loop-event.self m stands, headline_holds e m reached))
    (returns-clause-steps c)
