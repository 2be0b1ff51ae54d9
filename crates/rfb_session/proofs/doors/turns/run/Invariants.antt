-- What was done in the turns so far.
use Rattle.rfb_session.specs.doors.Turns.{Turns}
use Rattle.rfb_session.proofs.doors.turns.run.Given as goal

abbrev pub invariant-loop-turn : goal.invariant-loop-turn
invariant-loop-turn g l =
    Turns g.C.Core.steps g.D.Device.unread g.D.Device.written g.D.Device.failed g.D.Device.stands
    l.initial.core l.core l.initial.doors l.doors
