use Rattle.std.proofs.Common.{arith}
use Rattle.rfb_pixel.specs.Format.{rgb565}
use Rattle.rfb_pixel.proofs.UnpackLemmas.{eight_colours}
use Rattle.rfb_pixel.proofs.Unpack565Lemmas.{shown}
use Rattle.rfb_pixel.proofs.lanes.rgb565.unpack_eight_rgb565.Goals as goal

pub returns-clause-value : goal.returns-clause-value
returns-clause-value c =
    eight_colours rgb565 c.args.bytes.now c.write_eight.ensures
    (shown _ _ (c.numbers_of.ensures.bound 0) (c.numbers_of.ensures.value 0 (omega arith)))
    (shown _ _ (c.numbers_of.ensures.bound 1) (c.numbers_of.ensures.value 1 (omega arith)))
    (shown _ _ (c.numbers_of.ensures.bound 2) (c.numbers_of.ensures.value 2 (omega arith)))
    (shown _ _ (c.numbers_of.ensures.bound 3) (c.numbers_of.ensures.value 3 (omega arith)))
    (shown _ _ (c.numbers_of.ensures.bound 4) (c.numbers_of.ensures.value 4 (omega arith)))
    (shown _ _ (c.numbers_of.ensures.bound 5) (c.numbers_of.ensures.value 5 (omega arith)))
    (shown _ _ (c.numbers_of.ensures.bound 6) (c.numbers_of.ensures.value 6 (omega arith)))
    (shown _ _ (c.numbers_of.ensures.bound 7) (c.numbers_of.ensures.value 7 (omega arith)))
