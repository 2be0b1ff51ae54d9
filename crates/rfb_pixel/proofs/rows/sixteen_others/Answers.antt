use Rattle.std.proofs.Common.{◌≡◌, ◌+◌, ◌-◌, arith}
use Rattle.std.proofs.lemmas.List.{get_or-replicate}
use Rattle.std.proofs.lemmas.Simd.{get_or-chunk}
use Rattle.rfb_pixel.proofs.rows.sixteen_others.Goals as goal

pub returns-clause-value : goal.returns-clause-value
returns-clause-value c = λ i low.
    let row = c.args.row.now in
    let at = c.args.at in
    let place = get_or-chunk at (at + 16 - at) row i 0 (omega arith) in
    let alike = get_or-replicate 16 i c.args.pixel 0 low in
    let first : 0 + i ≡ i = omega arith in
    rw (← place, ← alike) (rw first at (c.sixteen_differing.ensures.value i low))
