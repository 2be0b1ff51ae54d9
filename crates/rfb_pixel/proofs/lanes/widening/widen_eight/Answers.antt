use Rattle.std.proofs.Common.{◌≡◌, ◌<◌, ℕ, List, [], ◌∷◌, length, slice_index_or, refl, sym, subst}
use Rattle.std.proofs.Common.{arith}
use Rattle.rfb_pixel.specs.declared.colour.Colour.{Colour}
use Rattle.rfb_pixel.specs.Bytes.{byte_colour}
use Rattle.rfb_pixel.proofs.FormatLemmas.{same_colour}
use Rattle.rfb_pixel.proofs.UnpackLemmas.{components_twice, eight_shown}
use Rattle.rfb_pixel.proofs.lanes.widening.widen_eight.Goals as goal

pub returns-clause-value : goal.returns-clause-value
returns-clause-value c = λ k d.
    let bytes = c.args.bytes.now in
    let first : List ℕ = 0 ∷ 1 ∷ 2 ∷ 3 ∷ 4 ∷ 5 ∷ 6 ∷ 7 ∷ [] in
    let x = components_twice 0 bytes first c.components_of-x.result (omega (arith, c.requires.bytes)) refl refl
    c.components_of-x.ensures in
    let y = components_twice 8 bytes first c.components_of-y.result (omega (arith, c.requires.bytes)) refl refl
    c.components_of-y.ensures in
    let z = components_twice 8 bytes (8 ∷ 9 ∷ 10 ∷ 11 ∷ 12 ∷ 13 ∷ 14 ∷ 15 ∷ []) c.components_of-z.result
    (omega (arith, c.requires.bytes)) refl refl c.components_of-z.ensures in
    let P = λ (k : ℕ) (x : Colour). x ≡ byte_colour bytes k in
    subst (λ (l : List Colour). k < length l → P k (slice_index_or l k d)) (sym c.write_eight.ensures)
    (eight_shown P _ _ _ _ _ _ _ _
    (same_colour _ _ (x 0 (omega arith)) (x 1 (omega arith)) (x 2 (omega arith)))
    (same_colour _ _ (x 3 (omega arith)) (x 4 (omega arith)) (x 5 (omega arith)))
    (same_colour _ _ (x 6 (omega arith)) (x 7 (omega arith)) (y 0 (omega arith)))
    (same_colour _ _ (y 1 (omega arith)) (y 2 (omega arith)) (y 3 (omega arith)))
    (same_colour _ _ (y 4 (omega arith)) (y 5 (omega arith)) (y 6 (omega arith)))
    (same_colour _ _ (y 7 (omega arith)) (z 0 (omega arith)) (z 1 (omega arith)))
    (same_colour _ _ (z 2 (omega arith)) (z 3 (omega arith)) (z 4 (omega arith)))
    (same_colour _ _ (z 5 (omega arith)) (z 6 (omega arith)) (z 7 (omega arith)))
    k d)
