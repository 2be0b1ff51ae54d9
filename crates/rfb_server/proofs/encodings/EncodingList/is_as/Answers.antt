use Rattle.std.proofs.Common.{◌∙◌, sym, arith}
use Rattle.rfb_server.proofs.ComparedLemmas.{encoding_more, encodings_same}
use Rattle.rfb_server.proofs.encodings.EncodingList.is_as.Goals as goal

pub loop-i-preserved : goal.loop-i-preserved
loop-i-preserved c =
    encoding_more c.as_slice-list.result.now c.as_slice-others.result.now c.loop-i.i
    c.loop-i-test.true c.if-list-others.false
    (sym c.same.ensures ∙ c.if-not-same.false) c.loop-i.invariant

pub returns : goal.returns
returns c =
    sym c.as_slice-list.ensures
    ∙ (encodings_same c.as_slice-list.result.now c.as_slice-others.result.now c.loop-i.i c.if-list-others.false
    (omega (arith, c.loop-i-test.false)) c.loop-i.invariant ∙ c.as_slice-others.ensures)
