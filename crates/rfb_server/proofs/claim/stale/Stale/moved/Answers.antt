use Rattle.std.proofs.Common.{arith}
use Rattle.std.proofs.lemmas.List.{take_all}
use Rattle.rfb_server.specs.Claims.{has_row}
use Rattle.rfb_server.proofs.StaleLemmas.{none_more}
use Rattle.rfb_server.proofs.claim.stale.Stale.moved.Goals as goal

pub loop-i-preserved : goal.loop-i-preserved
loop-i-preserved c = λ s y far low fresh.
    let runs = c.args.self.now.runs in
    let both = c.add.ensures y fresh in
    none_more (λ rows. has_row rows s) runs c.loop-i.i (record { first = 0; end = 0 }) (omega arith)
    (c.loop-i.invariant s y far low both.0) (c.moved.ensures s y far low both.1)

pub returns : goal.returns
returns c = λ s y far low fresh.
    rw (take_all c.loop-i.i c.args.self.now.runs (omega arith)) at (c.loop-i.invariant s y far low fresh)
