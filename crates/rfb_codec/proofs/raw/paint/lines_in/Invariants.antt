use Rattle.std.proofs.Common.{◌*◌, take}
use Rattle.rfb_pixel.specs.Format.{size_of}
use Rattle.rfb_codec.specs.decoder.Step.{PaintsPixels, first_of_row}
use Rattle.rfb_codec.proofs.raw.paint.lines_in.Given as goal

abbrev pub invariant-lines : goal.invariant-lines
invariant-lines l =
    PaintsPixels l.format l.rect (first_of_row l.rect.w l.lines.top) (l.row * l.rect.w)
    (take (l.row * (l.rect.w * size_of l.format)) l.bytes) l.fn.picture l.picture
