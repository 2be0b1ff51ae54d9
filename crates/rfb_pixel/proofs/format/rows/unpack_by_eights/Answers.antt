use Rattle.std.proofs.Common.{arith}
use Rattle.rfb_pixel.proofs.format.rows.unpack_by_eights.Goals as goal

pub unpack_eight_at-requires-2-clause-front : goal.unpack_eight_at-requires-2-clause-front
unpack_eight_at-requires-2-clause-front g c = λ k d below. c.loop-at.invariant.unpacked k d (omega arith)

pub returns : goal.returns
returns g c = λ k d below. c.unpack_eight_at-2.ensures.unpacked k d (omega arith)
