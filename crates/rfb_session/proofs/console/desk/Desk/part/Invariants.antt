-- The seats so far are reported.
use Rattle.rfb_session.specs.console.Viewers.{PartsUpTo}
use Rattle.rfb_session.proofs.console.desk.Desk.part.Given as goal

abbrev pub invariant-loop-place : goal.invariant-loop-place
invariant-loop-place l = PartsUpTo l.place l.fn.self l.seats l.self
