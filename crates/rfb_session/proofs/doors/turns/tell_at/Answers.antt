use Rattle.rfb_session.proofs.DoorTurnLemmas.{turns_out_none, turns_out_at}
use Rattle.rfb_session.proofs.doors.turns.tell_at.Goals as goal

pub returns-else-writes : goal.returns-else-writes
returns-else-writes g c = turns_out_none

pub returns-then-writes : goal.returns-then-writes
returns-then-writes g c =
    turns_out_at c.args.door c.index-doors-door.result c.requires c.tell-answer.ensures.moves
