use Rattle.rfb_session.specs.doors.Lives.{Still, Then, telling}
use Rattle.rfb_session.proofs.TenantLemmas.{tenants}
use Rattle.rfb_session.proofs.doors.lives.live.Goals as goal

pub loop-turn-init : goal.loop-turn-init
loop-turn-init g c = Still

pub loop-turn-preserved : goal.loop-turn-preserved
loop-turn-preserved g c =
    Then c.loop-turn.invariant c.open.ensures.opens c.turn-next.ensures.turns c.close.ensures

pub returns-then-is_done-clause-tenants : goal.returns-then-is_done-clause-tenants
returns-then-is_done-clause-tenants g c =
    tenants (telling g.C.Core.steps g.C.Host.opens g.C.Host.declines g.C.Core.closed g.C.Core.waiting g.D.Device.unread
    g.D.Device.written g.D.Device.failed g.S.Arrivals.fresh) c.args.core.now c.loop-turn.core
    c.args.doors.now c.loop-turn.doors c.loop-turn.invariant

pub returns-clause-tenants : goal.returns-clause-tenants
returns-clause-tenants g c =
    tenants (telling g.C.Core.steps g.C.Host.opens g.C.Host.declines g.C.Core.closed g.C.Core.waiting g.D.Device.unread
    g.D.Device.written g.D.Device.failed g.S.Arrivals.fresh) c.args.core.now c.loop-turn.core
    c.args.doors.now c.loop-turn.doors c.loop-turn.invariant
