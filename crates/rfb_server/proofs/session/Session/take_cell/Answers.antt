use Rattle.std.proofs.Common.{sym}
use Rattle.rfb_server.proofs.KeptLemmas.{alike_sent}
use Rattle.rfb_server.proofs.session.Session.take_cell.Goals as goal

pub invariant_of-self-clause-alike : goal.invariant_of-self-clause-alike
invariant_of-self-clause-alike c =
    let s = c.args.self.now in
    let taken = c.take_from.ensures in
    alike_sent s.known _ s.area s.marks taken.whole (record { columns = sym taken.width; rows = sym taken.height })
    s.alike
