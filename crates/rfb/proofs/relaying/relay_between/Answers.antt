use Rattle.std.proofs.Common.{sym}
use Rattle.rfb.specs.Ends.{EndsWell, FailsFor, IsNoEnd}
use Rattle.rfb.specs.Relay.{RelaysUntil}
use Rattle.rfb.proofs.OutcomeLemmas.{ends_for, ends_ill, ends_well, until}
use Rattle.rfb.proofs.relaying.relay_between.Goals as goal

pub returns-clause-done : goal.returns-clause-done
returns-clause-done g c =
    ends_well (RelaysUntil c.args.options) EndsWell c.outcome.result c.result_of-ended.result
    (until c.relay_of-relay.result c.live.new.core c.outcome.result c.live.ensures.tenants.happenings
    c.relay_of-relay.ensures c.live.ensures.tenants.goes (sym c.outcome.ensures)) c.result_of-ended.ensures.well

pub returns-clause-stopped : goal.returns-clause-stopped
returns-clause-stopped g c =
    ends_for (RelaysUntil c.args.options) FailsFor c.outcome.result c.result_of-ended.result _ _
    (until c.relay_of-relay.result c.live.new.core c.outcome.result c.live.ensures.tenants.happenings
    c.relay_of-relay.ensures c.live.ensures.tenants.goes (sym c.outcome.ensures)) c.result_of-ended.ensures.failure

pub returns-clause-left : goal.returns-clause-left
returns-clause-left g c =
    ends_ill (RelaysUntil c.args.options) IsNoEnd c.outcome.result c.result_of-ended.result _ _
    (until c.relay_of-relay.result c.live.new.core c.outcome.result c.live.ensures.tenants.happenings
    c.relay_of-relay.ensures c.live.ensures.tenants.goes (sym c.outcome.ensures)) c.result_of-ended.ensures.ill
