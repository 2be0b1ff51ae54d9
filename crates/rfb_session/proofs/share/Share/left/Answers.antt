use Rattle.rfb_session.proofs.ShareStateLemmas.{sound_left}
use Rattle.rfb_session.proofs.share.Share.left.Goals as goal

pub invariant_of-self : goal.invariant_of-self
invariant_of-self c =
    assumption (sound_left c.args.self.now c.place.result c.place.ensures.below c.empty.new.slot
    c.empty.ensures.empty)
