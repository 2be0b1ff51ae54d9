use Rattle.rfb_session.proofs.KinLemmas.{stays_or_leaves}
use Rattle.rfb_session.proofs.share.receiving.hear_at.Goals as goal

pub returns-clause-kin : goal.returns-clause-kin
returns-clause-kin c =
    stays_or_leaves c.knows_first.result c.args.place c.args.kin.now c.leave_unless.new.self c.args.slot.now
    c.hear_in-heard.new.slot c.leave_unless.ensures.stays c.leave_unless.ensures.leaves c.knows_first.ensures
    c.hear_in-heard.ensures.known
