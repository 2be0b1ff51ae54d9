use Rattle.rfb_session.proofs.SeatsLemmas.{with_one}
use Rattle.rfb_session.proofs.seats.Seats.with.Goals as goal

pub returns : goal.returns
returns c = λ k. with_one c.self.inside.bits c.args.self c.number.result c.args.seat k
    c.self.view_is c.number.ensures.value c.number.ensures.below
