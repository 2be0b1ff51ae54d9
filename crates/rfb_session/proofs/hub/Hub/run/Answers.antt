use Rattle.std.proofs.Common.{◌≡◌, None, List, sym, subst, arith}
use Rattle.std.proofs.lemmas.List.{take_all}
use Rattle.rfb_session.specs.declared.hub.event.HubEvent.{HubEvent}
use Rattle.rfb_session.specs.Headline.{IsHeadline}
use Rattle.rfb_session.specs.HubSteps.{RunsHub}
use Rattle.rfb_session.specs.LinkModel.{server_fault_of, viewer_fault_of}
use Rattle.rfb_session.proofs.HubRunLemmas.{runs_more, each_holds, none_failed}
use Rattle.rfb_session.proofs.NetworkLemmas.{headline_holds}
use Rattle.rfb_session.proofs.RunLemmas.{item_taken}
use Rattle.rfb_session.proofs.hub.Hub.run.Goals as goal

pub loop-event-preserved : goal.loop-event-preserved
loop-event-preserved c = record {
  few = c.loop-event.invariant.few;
  runs = subst (λ (events : List HubEvent). RunsHub c.args.self.now events c.step.new.self)
      (sym (item_taken c.args.events.now c.loop-event.event-index c.event-item.result (omega arith)
      c.event-item.is))
      (runs_more c.args.self.now c.loop-event.self c.step.new.self _
      c.event-item.result c.in_ok-step.field-0 c.loop-event.invariant.runs
      c.in_ok-step.ensures.steps);
  stands = λ had. c.in_ok-step.ensures.stands (c.loop-event.invariant.stands had);
}

pub returns-clause-steps : goal.returns-clause-steps
returns-clause-steps c =
    let all = take_all c.loop-event.event-index c.args.events.now (omega arith) in
    subst (λ (events : List HubEvent). RunsHub c.args.self.now events c.loop-event.self) all
    c.loop-event.invariant.runs

pub returns-clause-neither_failed : goal.returns-clause-neither_failed
returns-clause-neither_failed c = λ had.
    each_holds c.loop-event.self _ (c.loop-event.invariant.stands had)
    (λ e seat n reached stands. none_failed e _ seat n stands)

pub returns-clause-known : goal.returns-clause-known
returns-clause-known c = λ had.
    each_holds c.loop-event.self _ (c.loop-event.invariant.stands had)
    (λ e seat n reached stands. (headline_holds e n reached).known)

pub returns-clause-latest : goal.returns-clause-latest
returns-clause-latest c = λ had.
    each_holds c.loop-event.self _ (c.loop-event.invariant.stands had)
    (λ e seat n reached stands. (headline_holds e n reached).latest)

pub returns-clause-headline : goal.returns-clause-headline
returns-clause-headline c = λ had.
    each_holds c.loop-event.self (λ e seat n. (server_fault_of seat.link ≡ None)
    × (viewer_fault_of seat.link ≡ None) × IsHeadline e n.link) (c.loop-event.invariant.stands had)
    (λ e seat n reached stands.
    let one = none_failed e c.loop-event.self.screen seat n stands in
    (one.0, one.1, headline_holds e n reached))
