use Rattle.std.proofs.Common.{refl}
use Rattle.rfb_session.proofs.DoorMoveLemmas.{moves_in, moves_in_end, moves_in_fault, moves_in_none, moves_in_not}
use Rattle.rfb_session.proofs.doors.incoming.hear.Goals as goal

pub returns-in-Moved-clause-moves : goal.returns-in-Moved-clause-moves
returns-in-Moved-clause-moves g c =
    moves_in c.in-Moved.came c.read.new.buf c.bring.ensures c.in-Moved.ensures.gives c.read.ensures.stays

pub returns-in-Ended-clause-moves : goal.returns-in-Ended-clause-moves
returns-in-Ended-clause-moves g c =
    moves_in_end c.ended.ensures c.in-Ended.ensures.gives.0 c.in-Ended.ensures.gives.1 c.read.ensures.stays

pub returns-in-Failed-clause-moves : goal.returns-in-Failed-clause-moves
returns-in-Failed-clause-moves g c =
    moves_in_fault c.failed.ensures c.in-Failed.ensures.gives c.read.ensures.stays

pub returns-then-count-eq0-clause-moves : goal.returns-then-count-eq0-clause-moves
returns-then-count-eq0-clause-moves g c = moves_in_not _ _ _ _ _ _ _ _

pub returns-in-Again-clause-moves : goal.returns-in-Again-clause-moves
returns-in-Again-clause-moves g c = moves_in_none refl c.in-Again.ensures.gives c.read.ensures.stays

pub returns-in-Waits-clause-moves : goal.returns-in-Waits-clause-moves
returns-in-Waits-clause-moves g c = moves_in_none refl c.in-Waits.ensures.gives c.read.ensures.stays
