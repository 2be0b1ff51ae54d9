-- So many seats are served, and for none a large update was composed.
use Rattle.rfb_session.specs.console.Updates.{RoundUpTo}
use Rattle.rfb_session.proofs.console.desk.Desk.compose_round.Given as goal

abbrev pub invariant-loop-step : goal.invariant-loop-step
invariant-loop-step l = RoundUpTo l.step l.fn.is_busy l.fn.self l.initial.left l.left l.wants l.self
