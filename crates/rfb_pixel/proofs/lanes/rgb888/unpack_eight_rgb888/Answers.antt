use Rattle.std.proofs.Common.{[], ◌∷◌, refl, arith}
use Rattle.rfb_pixel.specs.Format.{rgb888}
use Rattle.rfb_pixel.proofs.UnpackLemmas.{components_twice, eight_colours, shown}
use Rattle.rfb_pixel.proofs.lanes.rgb888.unpack_eight_rgb888.Goals as goal

pub returns-clause-value : goal.returns-clause-value
returns-clause-value c =
    let bytes = c.args.bytes.now in
    let x = components_twice 0 bytes (2 ∷ 1 ∷ 0 ∷ 6 ∷ 5 ∷ 4 ∷ 10 ∷ 9 ∷ []) c.components_of-x.result
    (omega (arith, c.requires.bytes)) refl refl c.components_of-x.ensures in
    let y = components_twice 8 bytes (0 ∷ 6 ∷ 5 ∷ 4 ∷ 10 ∷ 9 ∷ 8 ∷ 14 ∷ []) c.components_of-y.result
    (omega (arith, c.requires.bytes)) refl refl c.components_of-y.ensures in
    let z = components_twice 16 bytes (5 ∷ 4 ∷ 10 ∷ 9 ∷ 8 ∷ 14 ∷ 13 ∷ 12 ∷ []) c.components_of-z.result
    (omega (arith, c.requires.bytes)) refl refl c.components_of-z.ensures in
    eight_colours rgb888 bytes c.write_eight.ensures
    (shown bytes 0 _ _ _ c.type_inv.bytes (x 0 (omega arith)) (x 1 (omega arith)) (x 2 (omega arith)))
    (shown bytes 4 _ _ _ c.type_inv.bytes (x 3 (omega arith)) (x 4 (omega arith)) (x 5 (omega arith)))
    (shown bytes 8 _ _ _ c.type_inv.bytes (x 6 (omega arith)) (x 7 (omega arith)) (y 0 (omega arith)))
    (shown bytes 12 _ _ _ c.type_inv.bytes (y 1 (omega arith)) (y 2 (omega arith)) (y 3 (omega arith)))
    (shown bytes 16 _ _ _ c.type_inv.bytes (y 4 (omega arith)) (y 5 (omega arith)) (y 6 (omega arith)))
    (shown bytes 20 _ _ _ c.type_inv.bytes (y 7 (omega arith)) (z 0 (omega arith)) (z 1 (omega arith)))
    (shown bytes 24 _ _ _ c.type_inv.bytes (z 2 (omega arith)) (z 3 (omega arith)) (z 4 (omega arith)))
    (shown bytes 28 _ _ _ c.type_inv.bytes (z 5 (omega arith)) (z 6 (omega arith)) (z 7 (omega arith)))
