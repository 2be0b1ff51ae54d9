use Rattle.std.proofs.Common.{◌+◌, ◌*◌}
use Rattle.rfb_pixel.specs.Bytes.{byte_colour}
use Rattle.rfb_codec.specs.decoder.Step.{PaintsOver}
use Rattle.rfb_codec.proofs.pixels.paint_bytes.Given as goal

abbrev pub invariant-loop-row : goal.invariant-loop-row
invariant-loop-row l = PaintsOver (record l.rect { h = l.row })
    (λ x y. byte_colour l.bytes (y * l.rect.w + x)) l.fn.picture l.picture
