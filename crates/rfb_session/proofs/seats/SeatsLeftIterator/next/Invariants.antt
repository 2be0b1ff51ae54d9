use Rattle.std.proofs.Common.{◌≡◌, ◌-◌}
use Rattle.rfb_session.specs.Seats.{seats_left}
use Rattle.rfb_session.proofs.seats.SeatsLeftIterator.next.Given as goal

abbrev pub invariant-loop-self : goal.invariant-loop-self
invariant-loop-self l = seats_left l.self ≡ seats_left l.initial.self

abbrev pub decreases-loop-self : goal.decreases-loop-self
decreases-loop-self l = 8 - l.self.at
