-- The seats so far are empty, if they are to be.
use Rattle.rfb_session.specs.console.Viewers.{LetsGoUpTo}
use Rattle.rfb_session.proofs.console.desk.Desk.let_all_go.Given as goal

abbrev pub invariant-loop-place : goal.invariant-loop-place
invariant-loop-place l = LetsGoUpTo l.place l.fn.self l.seats l.self
