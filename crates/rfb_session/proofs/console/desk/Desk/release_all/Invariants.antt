-- Of the seats so far those that failed may be empty.
use Rattle.rfb_session.specs.console.Turns.{ReleasesUpTo}
use Rattle.rfb_session.proofs.console.desk.Desk.release_all.Given as goal

abbrev pub invariant-loop-place : goal.invariant-loop-place
invariant-loop-place l = ReleasesUpTo l.place l.fn.self l.self
