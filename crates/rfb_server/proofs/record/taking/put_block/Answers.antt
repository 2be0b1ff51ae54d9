use Rattle.std.proofs.Common.{◌∙◌, arith}
use Rattle.rfb_server.proofs.RecordLemmas.{put_start, put_more, of_block, block_row}
use Rattle.rfb_server.proofs.record.taking.put_block.Goals as goal

pub loop-line-init : goal.loop-line-init
loop-line-init c = put_start c.args.rect (of_block c.args.rect c.args.block.now) c.args.pixels.now c.requires.whole

pub loop-line-preserved : goal.loop-line-preserved
loop-line-preserved c =
    rw (c.put_row.ensures.value)
    (put_more c.args.rect c.loop-line.line (of_block c.args.rect c.args.block.now) c.args.pixels.now
    c.loop-line.pixels c.row.result.now (c.row.ensures.len ∙ c.requires.sized.width_is)
    (block_row c.args.rect c.loop-line.line c.args.block.now c.row.result.now c.requires.sized.whole
    c.requires.sized.width_is (rw (c.requires.sized.height_is) (omega arith)) c.row.ensures.value)
    c.loop-line.invariant)
