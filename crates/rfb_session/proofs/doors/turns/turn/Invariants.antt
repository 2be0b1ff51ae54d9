-- What was done at the doors so far: read there, and, once all was heard, written.
use Rattle.rfb_session.specs.doors.Turns.{TurnsIn, TurnsOut}
use Rattle.rfb_session.proofs.doors.turns.turn.Given as goal

abbrev pub invariant-loop-door : goal.invariant-loop-door
invariant-loop-door g l =
    TurnsIn g.C.Core.steps g.D.Device.unread g.D.Device.written g.D.Device.failed g.D.Device.stands
    l.initial.core l.core l.initial.doors l.doors

abbrev pub invariant-loop-door-2 : goal.invariant-loop-door-2
invariant-loop-door-2 g l =
    TurnsOut g.C.Core.steps g.D.Device.unread g.D.Device.written g.D.Device.failed g.D.Device.stands
    l.initial.core l.core l.initial.doors l.doors
