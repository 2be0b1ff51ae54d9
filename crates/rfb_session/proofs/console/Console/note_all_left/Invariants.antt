-- Nothing but notes has changed after each seat.
use Rattle.rfb_session.specs.console.Console.{KeepsButNotes}
use Rattle.rfb_session.proofs.console.Console.note_all_left.Given as goal

abbrev pub invariant-loop-seat : goal.invariant-loop-seat
invariant-loop-seat g l = KeepsButNotes l.fn.self l.self
