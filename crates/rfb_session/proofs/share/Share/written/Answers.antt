use Rattle.rfb_session.proofs.ShareStateLemmas.{sound_written}
use Rattle.rfb_session.proofs.share.Share.written.Goals as goal

pub invariant_of-self : goal.invariant_of-self
invariant_of-self c =
    assumption (sound_written c.args.self.now c.place.result c.place.ensures.below c.write_in.new.slot c.args.count _
    c.write_in.ensures)
