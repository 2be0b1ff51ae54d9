use Rattle.std.proofs.Common.{◌*◌, arith}
use Rattle.rfb_picture.proofs.PlaneLemmas.{plane-zeros, resized_zeros}
use Rattle.rfb_picture.proofs.plane.Plane.new.Goals as goal

pub returns-clause-value : goal.returns-clause-value
returns-clause-value c =
    let count = c.from-2.result * c.div_ceil-across.result in
    let zeros = resized_zeros count _ _ _ c.in_ok-resize.ensures.items c.in_ok-words.ensures.items
    c.in_ok-words.ensures.len in
    rw (c.into_boxed_slice.ensures.items, zeros)
    (plane-zeros c.args.width c.args.height c.div_ceil-across.result count)

pub invariant_of-result : goal.invariant_of-result
invariant_of-result c = grind arith
