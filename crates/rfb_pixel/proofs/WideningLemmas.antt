-- What a field of one to ten bits holds, as a component, by one product.
use Rattle.std.proofs.Common.{◌≡◌, ℕ, ◌+◌, ◌-◌, ◌*◌, ◌/◌, ◌^◌, ◌<◌, ◌≤◌, zero, suc, List, [], ◌∷◌, slice_index_or}
use Rattle.std.proofs.Common.{arith}
use Rattle.rfb_pixel.specs.Channel.{rescaled}

-- the factors by the field's width
abbrev pub factors : List ℕ
factors = 0 ∷ 4294901760 ∷ 1431633920 ∷ 613557394 ∷ 286326784 ∷ 138545218 ∷ 68173044 ∷ 33818124
    ∷ 16842752 ∷ 8404896 ∷ 4198340 ∷ []

-- each width by itself
pub widened : (w v : ℕ) → 1 ≤ w → w ≤ 10 → v < 2 ^ w →
    (v * slice_index_or factors w 0 + 32768) / 65536 ≡ rescaled (2 ^ w - 1) 65535 v
widened zero v some few small = absurd (omega arith)
widened (suc zero) v some few small = omega (arith, small)
widened (suc (suc zero)) v some few small = omega (arith, small)
widened (suc (suc (suc zero))) v some few small = omega (arith, small)
widened (suc (suc (suc (suc zero)))) v some few small = omega (arith, small)
widened (suc (suc (suc (suc (suc zero))))) v some few small = omega (arith, small)
widened (suc (suc (suc (suc (suc (suc zero)))))) v some few small = omega (arith, small)
widened (suc (suc (suc (suc (suc (suc (suc zero))))))) v some few small = omega (arith, small)
widened (suc (suc (suc (suc (suc (suc (suc (suc zero)))))))) v some few small = omega (arith, small)
widened (suc (suc (suc (suc (suc (suc (suc (suc (suc zero))))))))) v some few small = omega (arith, small)
widened (suc (suc (suc (suc (suc (suc (suc (suc (suc (suc zero)))))))))) v some few small = omega (arith, small)
widened (suc (suc (suc (suc (suc (suc (suc (suc (suc (suc (suc w))))))))))) v some few small = absurd (omega arith)
