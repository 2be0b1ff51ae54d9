use Rattle.std.proofs.Common.{arith, ◌∙◌, sym}
use Rattle.rfb_server.proofs.AlikeLemmas.{no_rows, rows_more, rows_same}
use Rattle.rfb_server.proofs.record.taking.are_same.Goals as goal

pub loop-line-init : goal.loop-line-init
loop-line-init c = no_rows c.args.rect c.args.pixels.now c.args.other.now

pub loop-line-preserved : goal.loop-line-preserved
loop-line-preserved c =
    let same = rows_same c.first_diff.result c.row-row.result.now c.row.result.now c.first_diff.ensures.same
    (sym c.is_some.ensures ∙ c.if-is_some.false) in
    rows_more c.args.rect c.loop-line.line c.args.pixels.now c.args.other.now c.row-row.result.now
    c.requires.whole c.requires.whole_too c.requires.held.0 c.requires.held_too.0
    (omega (arith, c.requires.held.1)) (omega (arith, c.requires.held_too.1))
    c.row-row.ensures.value (same ∙ c.row.ensures.value) c.loop-line.invariant
