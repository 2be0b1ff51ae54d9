use Rattle.std.proofs.Common.{arith}
use Rattle.std.proofs.lemmas.List.{take_all}
use Rattle.rfb_server.proofs.claim.stale.Stale.first_from.Goals as goal

pub returns-clause-fresh : goal.returns-clause-fresh
returns-clause-fresh c = λ z from to.
    rw (take_all c.loop-i.i c.args.self.now.runs (omega arith)) at (c.loop-i.invariant.fresh z from to)
