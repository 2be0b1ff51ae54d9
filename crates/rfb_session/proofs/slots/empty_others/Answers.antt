use Rattle.std.proofs.Common.{None, ◌∙◌, arith}
use Rattle.std.proofs.lemmas.List.{get_or_default}
use Rattle.rfb_session.proofs.SlotLemmas.{emptying_more}
use Rattle.rfb_session.proofs.slots.empty_others.Goals as goal

pub loop-k-preserved : goal.loop-k-preserved
loop-k-preserved g c =
    let at = get_or_default c.loop-k.slots c.loop-k.k c.index-slots-k.result None
    (omega (arith, c.loop-k-test.true)) in
    emptying_more c.args.own c.args.slots.now c.loop-k.slots c.loop-k.k c.loop-k.ended
    c.end-ended.result _ (omega (arith, c.loop-k-test.true)) c.loop-k.invariant
    (λ own. c.end-ended.ensures.own own ∙ at) c.end-ended.ensures.emptied
    (rw at at c.end-ended.ensures.bit)
