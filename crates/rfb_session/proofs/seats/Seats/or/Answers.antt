use Rattle.rfb_picture.proofs.WordLemmas.{has_bit-or}
use Rattle.rfb_session.proofs.seats.Seats.or.Goals as goal

pub returns : goal.returns
returns c = λ k. rw (c.self.view_is, c.other.view_is) (has_bit-or c.args.self c.args.other k)
