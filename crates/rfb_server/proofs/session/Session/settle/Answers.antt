use Rattle.rfb_server.proofs.UpdateLemmas.{alike_settled}
use Rattle.rfb_server.proofs.session.Session.settle.Goals as goal

pub invariant_of-self-clause-alike : goal.invariant_of-self-clause-alike
invariant_of-self-clause-alike c =
    let s = c.args.self.now in
    rw (c.take_away.ensures.value, c.asked.ensures, c.clear.ensures.value)
    (alike_settled s.known s.area s.marks s.alike)
