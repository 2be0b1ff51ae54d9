-- Of the seats so far the oldest that gives way was found.
use Rattle.rfb_session.specs.console.Viewers.{FindsOldest}
use Rattle.rfb_session.proofs.console.desk.Desk.oldest_undone.Given as goal

abbrev pub invariant-loop-place : goal.invariant-loop-place
invariant-loop-place l = FindsOldest l.self l.place l.found
