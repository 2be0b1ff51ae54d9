use Rattle.std.proofs.Common.{refl}
use Rattle.rfb_session.proofs.DoorMoveLemmas.{moves_out, moves_out_fault, moves_out_none, moves_out_not, took_front}
use Rattle.rfb_session.proofs.doors.outgoing.tell.Goals as goal

pub returns-in-Moved-clause-moves : goal.returns-in-Moved-clause-moves
returns-in-Moved-clause-moves g c =
    moves_out c.in-Moved.left c.to_write-waiting.result.now (g.C.Core.waiting c.args.core.now c.args.door)
    c.to_write-waiting.ensures c.written.ensures.steps
    (took_front c.in-Moved.left _ c.to_write-waiting.result.now c.in-Moved.ensures.takes) c.write.ensures.stays

pub returns-in-Failed-clause-moves : goal.returns-in-Failed-clause-moves
returns-in-Failed-clause-moves g c =
    moves_out_fault c.failed.ensures c.in-Failed.ensures.takes c.write.ensures.stays

pub returns-then-is_empty-clause-moves : goal.returns-then-is_empty-clause-moves
returns-then-is_empty-clause-moves g c = moves_out_not _ _ _ _ _ _ _ _

pub returns-in-Again-clause-moves : goal.returns-in-Again-clause-moves
returns-in-Again-clause-moves g c = moves_out_none refl c.in-Again.ensures.takes c.write.ensures.stays

pub returns-in-Waits-clause-moves : goal.returns-in-Waits-clause-moves
returns-in-Waits-clause-moves g c = moves_out_none refl c.in-Waits.ensures.takes c.write.ensures.stays
