use Rattle.std.proofs.Common.{None}
use Rattle.rfb_server.specs.update.Needs.{HasBox, needs_of, rows_above}
use Rattle.rfb_server.proofs.session.Session.needed_in_zone.Given as goal

-- none was found in the rows so far
abbrev pub invariant-loop-y : goal.invariant-loop-y
invariant-loop-y l = HasBox (needs_of l.screen l.self) (rows_above l.zone l.y) None
