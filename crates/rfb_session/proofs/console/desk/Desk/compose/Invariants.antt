-- The seats so far are served.
use Rattle.rfb_session.specs.console.Updates.{SharesUpTo}
use Rattle.rfb_session.proofs.console.desk.Desk.compose.Given as goal

abbrev pub invariant-loop-place : goal.invariant-loop-place
invariant-loop-place l = SharesUpTo l.place l.fn.self l.initial.left l.left l.wants l.self
