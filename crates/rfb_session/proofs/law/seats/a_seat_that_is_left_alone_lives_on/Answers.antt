use Rattle.rfb_session.proofs.ShareLawLemmas.{alone_lives}
use Rattle.rfb_session.proofs.law.seats.a_seat_that_is_left_alone_lives_on.Goals as goal

pub returns : goal.returns
returns c = λ serving old new k heard taken keeps same lives.
    alone_lives serving old new k heard taken keeps same lives
