use Rattle.std.proofs.Common.{◌∙◌, arith}
use Rattle.rfb_codec.proofs.PaintLemmas.{rows_more, rows_none}
use Rattle.rfb_codec.proofs.BytesLemmas.{byte_colour_of_row}
use Rattle.rfb_codec.proofs.pixels.paint_bytes.Goals as goal

pub loop-row-init : goal.loop-row-init
loop-row-init c = rows_none c.args.rect c.width.ensures.whole

pub loop-row-preserved : goal.loop-row-preserved
loop-row-preserved c =
    rows_more c.args.rect c.colours_of_bytes.new.colours c.loop-row.invariant c.row_mut-places.ensures.whole
    c.width.ensures.whole (omega arith) (omega arith) (λ k d below.
    c.colours_of_bytes.ensures k d (omega arith)
    ∙ byte_colour_of_row c.args.bytes.now c.loop-row.row c.args.rect.w k c.from.result c.from-length.result _
    c.from.ensures c.from-length.ensures (omega arith) below)
