use Rattle.rfb_session.proofs.DoorTurnLemmas.{turns_none, turns_then}
use Rattle.rfb_session.proofs.doors.turns.run.Goals as goal

pub loop-turn-init : goal.loop-turn-init
loop-turn-init g c = turns_none

pub loop-turn-preserved : goal.loop-turn-preserved
loop-turn-preserved g c = turns_then c.loop-turn.invariant c.turn-next.ensures.turns
