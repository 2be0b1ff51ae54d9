-- The seats so far have their time.
use Rattle.rfb_session.specs.console.Turns.{StampsUpTo}
use Rattle.rfb_session.proofs.console.desk.Desk.stamp.Given as goal

abbrev pub invariant-loop-place : goal.invariant-loop-place
invariant-loop-place l = StampsUpTo l.place l.fn.self l.now l.self
