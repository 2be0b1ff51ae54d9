-- What the core was brought of the bytes, what is left of them, and that it has room for that.
use Rattle.std.proofs.Common.{length}
use Rattle.rfb_session.proofs.DoorMoveLemmas.{BringsUpTo}
use Rattle.rfb_session.proofs.doors.incoming.bring.Given as goal

abbrev pub invariant-loop-rest : goal.invariant-loop-rest
invariant-loop-rest g l =
    BringsUpTo g.C.Core.steps g.C.Core.space l.door l.initial.core l.core l.bytes l.rest

abbrev pub decreases-loop-rest : goal.decreases-loop-rest
decreases-loop-rest g l = length l.rest
