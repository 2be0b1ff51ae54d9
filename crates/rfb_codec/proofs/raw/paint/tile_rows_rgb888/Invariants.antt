use Rattle.rfb_codec.specs.decoder.Step.{PaintsOver}
use Rattle.rfb_pixel.specs.Format.{colour_of, rgb888}
use Rattle.rfb_codec.specs.Raw.{raw_pixel}
use Rattle.rfb_codec.proofs.raw.paint.tile_rows_rgb888.Given as goal

abbrev pub invariant-loop-row : goal.invariant-loop-row
invariant-loop-row l = PaintsOver (record l.rect { h = l.row })
    (λ x y. colour_of rgb888 (raw_pixel rgb888 l.rect.w l.bytes x y)) l.fn.picture l.picture
