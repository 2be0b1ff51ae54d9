use Rattle.rfb_codec.specs.decoder.Step.{PaintsSubs}
use Rattle.rfb_codec.proofs.hextile.paint.drawing.draw_each.Given as goal

abbrev pub invariant-loop-n : goal.invariant-loop-n
invariant-loop-n l = PaintsSubs l.format l.rect (record l.subs { count = l.n }) l.list l.fn.picture l.picture
