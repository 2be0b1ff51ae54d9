-- So it is after each seat.
use Rattle.rfb_session.specs.console.Turns.{ForgetsUpTo}
use Rattle.rfb_session.proofs.console.desk.Desk.written_lines.Given as goal

abbrev pub invariant-loop-place : goal.invariant-loop-place
invariant-loop-place l = ForgetsUpTo l.place l.count l.fn.self l.self
