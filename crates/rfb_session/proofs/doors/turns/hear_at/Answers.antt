use Rattle.rfb_session.proofs.DoorTurnLemmas.{turns_in_none, turns_in_at}
use Rattle.rfb_session.proofs.doors.turns.hear_at.Goals as goal

pub returns-else-reads : goal.returns-else-reads
returns-else-reads g c = turns_in_none

pub returns-then-reads : goal.returns-then-reads
returns-then-reads g c =
    turns_in_at c.args.door c.index-doors-door.result c.requires c.hear-answer.ensures.moves
