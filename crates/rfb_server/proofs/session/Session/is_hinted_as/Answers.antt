use Rattle.std.proofs.Common.{sym, ◌∙◌, arith}
use Rattle.rfb_server.proofs.ComparedLemmas.{hint_more, hints_same}
use Rattle.rfb_server.proofs.session.Session.is_hinted_as.Goals as goal

pub loop-index-preserved : goal.loop-index-preserved
loop-index-preserved c =
    hint_more c.args.self.now.hints.items c.args.other.now.hints.items c.loop-index.index c.in-Some.hint.now
    (sym c.in-Some.ensures) c.if-not-keeps_at.ensures c.loop-index.invariant

pub returns : goal.returns
returns c =
    hints_same c.args.self.now.hints.items c.args.other.now.hints.items c.loop-index.index
    (sym c.len-count.ensures.len ∙ (c.if-count-len.false ∙ c.len.ensures.len))
    (omega (arith, c.loop-index-test.false, c.len-count.ensures.len)) c.loop-index.invariant
