use Rattle.std.proofs.Common.{arith}
use Rattle.rfb_pixel.specs.Format.{rgb888}
use Rattle.rfb_pixel.proofs.PackLemmas.{packed_whole}
use Rattle.rfb_pixel.proofs.format.rows.pack_rgb888.Goals as goal

pub pack_sixteen_at-requires-2-clause-front : goal.pack_sixteen_at-requires-2-clause-front
pack_sixteen_at-requires-2-clause-front c = λ k d below. c.loop-at.invariant.packed k d (omega arith)

pub returns-then-colours-clause-value : goal.returns-then-colours-clause-value
returns-then-colours-clause-value c =
    packed_whole rgb888 c.args.colours.now _ _ (omega arith) (omega arith) c.pack_eight_at-then-colours.ensures.packed

pub returns-clause-value : goal.returns-clause-value
returns-clause-value c =
    packed_whole rgb888 c.args.colours.now _ _ (omega arith) (omega arith) c.pack_sixteen_at-2.ensures.packed
