use Rattle.rfb_session.proofs.MirrorLemmas.{keeps_shown}
use Rattle.rfb_session.proofs.share.mirror.Mirror.damage.Goals as goal

pub invariant_of-self : goal.invariant_of-self
invariant_of-self c =
    let s = c.args.self.now in
    let e = c.damage.ensures in
    assumption (keeps_shown s.viewer c.damage.new.self e.keeps.fault e.picture e.stands s.shown s.stands)
