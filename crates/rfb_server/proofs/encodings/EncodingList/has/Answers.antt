use Rattle.std.proofs.Common.{◌≡◌, true, sym, ◌∙◌}
use Rattle.rfb_server.specs.Encodings.{is_listed}
use Rattle.rfb_server.proofs.EncodingLemmas.{listed_at, none_more}
use Rattle.rfb_server.proofs.encodings.EncodingList.has.Goals as goal

pub returns-then-same : goal.returns-then-same
returns-then-same c =
    let here : is_listed c.args.encoding c.as_slice-list.result.now ≡ true =
    listed_at c.args.encoding c.as_slice-list.result.now c.loop-i.i _ c.loop-i-test.true
    (sym c.same.ensures ∙ c.if-same.true) in
    sym (rw (← c.as_slice-list.ensures) here)

pub loop-i-preserved : goal.loop-i-preserved
loop-i-preserved c =
    none_more c.args.encoding c.as_slice-list.result.now c.loop-i.i _ c.loop-i-test.true c.loop-i.invariant
    (sym c.same.ensures ∙ c.if-same.false)
