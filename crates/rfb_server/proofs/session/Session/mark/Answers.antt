use Rattle.rfb_server.proofs.MarksLemmas.{alike_marked}
use Rattle.rfb_server.proofs.session.Session.mark.Goals as goal

pub invariant_of-self : goal.invariant_of-self
invariant_of-self c =
    record {
      alike = alike_marked _ _ c.args.self.now.marks _ c.args.rect c.args.self.now.alike c.add.ensures.value;
      partial = c.args.self.now.partial;
      sixteen = c.args.self.now.sixteen;
    }
