use Rattle.rfb_session.proofs.KinLemmas.{numbers_meet, numbers_stay}
use Rattle.rfb_session.proofs.share.kin.Kin.meet.Goals as goal

pub returns-clause-alike : goal.returns-clause-alike
returns-clause-alike c =
    numbers_meet c.args.own c.args.others c.in-Some.number c.args.self.now _ c.in-Some.ensures.1
    c.renumbered-self.ensures.each

pub returns-clause-old : goal.returns-clause-old
returns-clause-old c =
    numbers_stay c.args.own c.args.others c.in-Some.number c.args.self.now _ c.in-Some.ensures.1
    c.renumbered-self.ensures.each
