use Rattle.std.proofs.Common.{◌≡◌, map, slice_index, arith}
use Rattle.std.proofs.lemmas.Grind.{same_number_lists}
use Rattle.rfb_pixel.specs.Format.{pixel_of, rgb888}
use Rattle.rfb_pixel.specs.bits.Lanes.{colours_in}
use Rattle.rfb_pixel.proofs.Pack888Lemmas.{packed}
use Rattle.rfb_pixel.proofs.PackLemmas.{eight_below, three_fit}
use Rattle.rfb_pixel.proofs.lanes.rgb888.pixels_of.Goals as goal

pub returns-clause-value : goal.returns-clause-value
returns-clause-value c =
    let x = c.type_inv.x in
    let y = c.type_inv.y in
    let z = c.type_inv.z in
    let pixels = c.numbers_of.result in
    let wanted = map (pixel_of rgb888) (colours_in c.args.x.now c.args.y.now c.args.z.now) in
    let is = c.numbers_of.ensures.value in
    let len = c.numbers_of.ensures.len in
    same_number_lists pixels wanted len (λ k below. eight_below (λ k. slice_index pixels k ≡ slice_index wanted k)
    (packed _ _ (three_fit _ _ _ (x 0) (x 1) (x 2)) (is 0 (omega arith)))
    (packed _ _ (three_fit _ _ _ (x 3) (x 4) (x 5)) (is 1 (omega arith)))
    (packed _ _ (three_fit _ _ _ (x 6) (x 7) (y 0)) (is 2 (omega arith)))
    (packed _ _ (three_fit _ _ _ (y 1) (y 2) (y 3)) (is 3 (omega arith)))
    (packed _ _ (three_fit _ _ _ (y 4) (y 5) (y 6)) (is 4 (omega arith)))
    (packed _ _ (three_fit _ _ _ (y 7) (z 0) (z 1)) (is 5 (omega arith)))
    (packed _ _ (three_fit _ _ _ (z 2) (z 3) (z 4)) (is 6 (omega arith)))
    (packed _ _ (three_fit _ _ _ (z 5) (z 6) (z 7)) (is 7 (omega arith)))
    k (omega (arith, len, below)))
