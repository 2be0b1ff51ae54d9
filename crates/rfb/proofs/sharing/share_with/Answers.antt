use Rattle.std.proofs.Common.{sym}
use Rattle.rfb.specs.Ends.{EndsWell, IsNoEnd}
use Rattle.rfb.specs.Share.{SharesUntil}
use Rattle.rfb.proofs.OutcomeLemmas.{ends_ill, ends_well, until}
use Rattle.rfb.proofs.sharing.share_with.Goals as goal

pub returns-clause-done : goal.returns-clause-done
returns-clause-done g c =
    ends_well (SharesUntil c.args.options) EndsWell c.outcome.result c.result_of-ended.result
    (until c.console_of-console.result c.live.new.core c.outcome.result c.live.ensures.tenants.happenings
    c.console_of-console.ensures c.live.ensures.tenants.goes (sym c.outcome.ensures))
    c.result_of-ended.ensures.well

pub returns-clause-left : goal.returns-clause-left
returns-clause-left g c =
    ends_ill (SharesUntil c.args.options) IsNoEnd c.outcome.result c.result_of-ended.result _ _
    (until c.console_of-console.result c.live.new.core c.outcome.result c.live.ensures.tenants.happenings
    c.console_of-console.ensures c.live.ensures.tenants.goes (sym c.outcome.ensures))
    c.result_of-ended.ensures.ill
