use Rattle.std.proofs.Common.{◌∙◌, ap, arith}
use Rattle.rfb_pixel.specs.Format.{colour_of}
use Rattle.rfb_codec.proofs.PaintLemmas.{rows_more, rows_none, pixel_of_row}
use Rattle.rfb_codec.proofs.raw.paint.rows_in.Goals as goal

pub loop-row-init : goal.loop-row-init
loop-row-init c = rows_none c.args.rect c.requires.place.whole

pub loop-row-preserved : goal.loop-row-preserved
loop-row-preserved c =
    let f = c.args.format in
    rows_more c.args.rect c.unpack_row.new.colours c.loop-row.invariant c.row_mut-places.ensures.whole
    c.requires.place.whole (omega arith) (omega arith) (λ k d below.
    c.unpack_row.ensures k d (omega arith)
    ∙ ap (colour_of f) (pixel_of_row f c.args.bytes.now c.loop-row.row k c.args.rect.w c.from-in-loop-row.result
    c.from.result c.size.result _ c.from-in-loop-row.ensures c.from.ensures c.size.ensures.value (omega arith) below))
