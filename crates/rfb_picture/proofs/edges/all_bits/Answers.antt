use Rattle.std.proofs.Common.{◌+◌, arith}
use Rattle.rfb_picture.proofs.GatherLemmas.{bits_join, bits_more}
use Rattle.rfb_picture.proofs.edges.all_bits.Goals as goal

pub loop-left-preserved : goal.loop-left-preserved
loop-left-preserved c =
    let l = c.loop-left in
    let four = c.four_rows-bits in
    let joined = bits_join c.args.words.now c.args.across c.args.column c.args.top l.from (l.from + 4) l.bits
    four.result l.invariant.order (omega arith) l.invariant.each l.invariant.some four.ensures.each four.ensures.some in
    record { order = omega arith; left = omega arith; each = joined.0; some = joined.1 }

pub loop-row-preserved : goal.loop-row-preserved
loop-row-preserved c =
    let l = c.loop-row in
    let more = bits_more c.args.words.now c.args.across c.args.column c.args.top l.row l.bits l.invariant.order
    l.invariant.each l.invariant.some in
    record { order = omega arith; each = more.0; some = more.1 }

pub returns-clause-some : goal.returns-clause-some
returns-clause-some c = λ i h. let (y, p, l, m) =
    c.loop-row.invariant.some i h in (y, p, omega arith, m)
