use Rattle.rfb_session.proofs.ShareMoveLemmas.{relayed}
use Rattle.rfb_session.proofs.share.mirroring.telling.tell_seat.Goals as goal

pub returns : goal.returns
returns c =
    relayed c.args.picture.now c.args.damage c.args.moves.now c.args.seat.now c.tell_change.new.seat
    c.tell_moves.new.seat c.tell_change.ensures c.tell_moves.ensures
