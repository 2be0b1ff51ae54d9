use Rattle.std.proofs.Common.{arith}
use Rattle.rfb_pixel.specs.bits.Lanes.{laned}
use Rattle.rfb_pixel.proofs.PackLemmas.{packed_whole}
use Rattle.rfb_pixel.proofs.format.rows.pack_by_eights.Goals as goal

pub pack_eight_at-requires-2-clause-front : goal.pack_eight_at-requires-2-clause-front
pack_eight_at-requires-2-clause-front g c = λ k d below. c.loop-at.invariant.packed k d (omega arith)

pub returns-clause-value : goal.returns-clause-value
returns-clause-value g c =
    packed_whole (laned g.row.NUMBER) c.args.colours.now _ _ (omega arith) (omega arith)
    c.pack_eight_at-2.ensures.packed

pub returns-clause-bound : goal.returns-clause-bound
returns-clause-bound g c = λ k below.
    (c.pack_eight_at-2.ensures.packed k (record { r = 0; g = 0; b = 0 }) (omega arith)).1
