use Rattle.std.proofs.Common.{arith}
use Rattle.rfb_picture.specs.Grid.{at_or}
use Rattle.rfb_server.proofs.RecordLemmas.{put_start, put_more, other_row}
use Rattle.rfb_server.proofs.record.taking.put_from.Goals as goal

pub loop-line-init : goal.loop-line-init
loop-line-init c = put_start c.args.rect (λ x y. at_or c.args.other.now x y 0) c.args.pixels.now c.requires.whole

pub loop-line-preserved : goal.loop-line-preserved
loop-line-preserved c =
    let wide = c.requires.held.0 in
    let high = c.requires.held.1 in
    rw (c.put_row.ensures.value)
    (put_more c.args.rect c.loop-line.line (λ x y. at_or c.args.other.now x y 0) c.args.pixels.now
    c.loop-line.pixels c.row.result.now c.row.ensures.len
    (other_row c.args.rect c.loop-line.line c.args.other.now c.row.result.now c.requires.whole_too
    (rw (c.requires.columns) wide) (rw (c.requires.rows) (omega arith)) c.row.ensures.value)
    c.loop-line.invariant)
