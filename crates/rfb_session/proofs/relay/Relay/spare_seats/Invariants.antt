-- So it is at the doors of the seats so far.
use Rattle.std.proofs.Common.{◌≡◌}
use Rattle.rfb_session.specs.relay.Doors.{SparesUpTo}
use Rattle.rfb_session.proofs.relay.Relay.spare_seats.Given as goal

abbrev pub invariant-loop-place : goal.invariant-loop-place
invariant-loop-place g l = SparesUpTo l.place l.fn.self l.self × (l.self.given ≡ l.fn.self.given)
