-- What was done in the turns so far.
use Rattle.rfb_session.specs.doors.Lives.{Lives, telling}
use Rattle.rfb_session.proofs.doors.lives.live.Given as goal

abbrev pub invariant-loop-turn : goal.invariant-loop-turn
invariant-loop-turn g l =
    Lives (telling g.C.Core.steps g.C.Host.opens g.C.Host.declines g.C.Core.closed g.C.Core.waiting g.D.Device.unread
    g.D.Device.written g.D.Device.failed g.S.Arrivals.fresh) l.initial.core l.core l.initial.doors l.doors
