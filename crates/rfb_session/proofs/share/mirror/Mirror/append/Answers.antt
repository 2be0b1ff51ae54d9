use Rattle.rfb_session.proofs.MirrorLemmas.{call_stands, shown_kept}
use Rattle.rfb_session.proofs.share.mirror.Mirror.append.Goals as goal

pub invariant_of-self : goal.invariant_of-self
invariant_of-self c =
    let s = c.args.self.now in
    record {
      shown = shown_kept s.viewer c.append.new.self c.append.ensures.picture s.shown;
      stands = call_stands s.viewer c.append.new.self c.args.call.now c.append.result c.append.ensures.stands
          c.append.ensures.refused c.append.ensures.keeps.fault s.stands;
    }
