use Rattle.std.proofs.Common.{◌∙◌, ap, arith, refl, sym}
use Rattle.rfb_pixel.specs.Format.{colour_of, rgb888}
use Rattle.rfb_codec.proofs.PaintLemmas.{rows_more, rows_none, pixel_of_row}
use Rattle.rfb_codec.proofs.raw.paint.tile_rows_rgb888.Goals as goal

pub loop-row-init : goal.loop-row-init
loop-row-init c = rows_none c.args.rect c.requires.place.whole

pub loop-row-preserved : goal.loop-row-preserved
loop-row-preserved c =
    rows_more c.args.rect c.unpack_sixteen.new.colours c.loop-row.invariant c.row_mut-places.ensures.whole
    c.requires.place.whole (omega arith) (omega arith) (λ k d below.
    c.unpack_sixteen.ensures k d (omega arith)
    ∙ ap (colour_of rgb888) (pixel_of_row rgb888 c.args.bytes.now c.loop-row.row k c.args.rect.w c.from-start.result
    16 4 _ c.from-start.ensures (sym c.requires.wide) refl (omega arith) below))
