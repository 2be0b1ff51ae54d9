use Rattle.std.proofs.Common.{arith}
use Rattle.rfb_pixel.proofs.format.rows.unpack_rgb888.Goals as goal

pub unpack_sixteen_at-requires-2-clause-front : goal.unpack_sixteen_at-requires-2-clause-front
unpack_sixteen_at-requires-2-clause-front c = λ k d below. c.loop-at.invariant.unpacked k d (omega arith)

pub returns-then-colours : goal.returns-then-colours
returns-then-colours c = λ k d below. c.unpack_eight_at-then-colours.ensures.unpacked k d (omega arith)

pub returns : goal.returns
returns c = λ k d below. c.unpack_sixteen_at-2.ensures.unpacked k d (omega arith)
