-- Which of the doors so far have become empty.
use Rattle.rfb_session.proofs.DoorLifeLemmas.{ClosesUpTo}
use Rattle.rfb_session.proofs.doors.lives.close.Given as goal

abbrev pub invariant-loop-door : goal.invariant-loop-door
invariant-loop-door g l =
    ClosesUpTo g.C.Core.closed g.C.Core.waiting l.core l.initial.doors l.doors l.door
