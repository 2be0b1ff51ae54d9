use Rattle.rfb_session.proofs.SeatsLemmas.{in_all}
use Rattle.rfb_session.proofs.seats.Seats.all.Goals as goal

pub returns : goal.returns
returns c = in_all
