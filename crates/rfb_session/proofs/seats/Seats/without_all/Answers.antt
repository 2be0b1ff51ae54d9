use Rattle.std.proofs.Common.{arith}
use Rattle.rfb_session.proofs.SeatsLemmas.{without_bits}
use Rattle.rfb_session.proofs.seats.Seats.without_all.Goals as goal

pub returns : goal.returns
returns c = λ k low. rw (← c.self.view_is, ← c.other.view_is)
    (without_bits c.self.inside.bits c.other.inside.bits k (omega arith) low)
