use Rattle.std.proofs.Common.{◌≡◌, ◌∙◌, ℕ, ◌+◌, ◌-◌, ◌<◌, ◌≤◌, ap, sym, arith, slice_index}
use Rattle.std.proofs.lemmas.Bool.{OnTrue_at, OnTrue_from}
use Rattle.std.proofs.lemmas.List.{get_or-replicate}
use Rattle.std.proofs.lemmas.Simd.{get_or-chunk}
use Rattle.rfb_pixel.proofs.rows.are_all.Goals as goal

pub returns : goal.returns
returns c =
    let row = c.args.row.now in
    let at = c.args.at in
    OnTrue_from c.are_same.result ((k : ℕ) → at ≤ k → k < at + 16 → slice_index row k ≡ c.args.pixel)
    (λ yes k from below.
    let place : at + (k - at) ≡ k = omega (arith, from) in
    ap (λ i. slice_index row i) (sym place)
    ∙ sym (get_or-chunk at (at + 16 - at) row (k - at) 0 (omega arith))
    ∙ OnTrue_at yes c.are_same.ensures (k - at) (omega arith) (omega arith)
    ∙ get_or-replicate 16 (k - at) c.args.pixel 0 (omega arith))
