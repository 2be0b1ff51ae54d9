use Rattle.std.proofs.Common.{refl, sym}
use Rattle.rfb_session.proofs.RelayStepLemmas.{plan_so, side_same, wakes_so}
use Rattle.rfb_session.proofs.relay.Relay.plan_call.Goals as goal

pub returns-clause-plans : goal.returns-clause-plans
returns-clause-plans g c = record {
  presence = plan_so _ c.args.self.now.console.outcome c.in-Some.pause c.args.now _ _ c.in-Some.is
      (sym c.if-is_some.ensures) c.planned-self.ensures;
  wakes = wakes_so _ _ _ c.call_time.result _ c.call_time.ensures c.sooner-self.ensures.second;
  sooner = c.sooner-self.ensures.first;
  beside = assumption refl;
  console = record {
    desk = refl;
    outcome = refl;
    notes = refl;
    side = side_same _ _ refl refl refl refl refl (λ was. was);
  };
}
