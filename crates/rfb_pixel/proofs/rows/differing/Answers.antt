use Rattle.std.proofs.Common.{◌∙◌, ◌==◌, not, slice_index, ap, arith}
use Rattle.rfb_pixel.proofs.DifferingLemmas.{joined, one_told, one_small}
use Rattle.rfb_pixel.proofs.rows.differing.Goals as goal

pub loop-at-preserved : goal.loop-at-preserved
loop-at-preserved c = record {
  within = omega arith;
  told = λ i low.
      joined c.loop-at.bits c.sixteen_differing.result 16 c.loop-at.at i
      (λ j. not (slice_index c.args.a.now j == slice_index c.args.b.now j))
      c.sixteen_differing.ensures.bound (omega arith) low c.loop-at.invariant.told c.sixteen_differing.ensures.value;
}

pub loop-place-preserved : goal.loop-place-preserved
loop-place-preserved c = λ i low.
    let differs = not (slice_index c.args.a.now c.loop-place.place == slice_index c.args.b.now c.loop-place.place) in
    rw c.from.ensures
    (joined c.loop-place.bits (mir.Val.bool_byte differs) 1 c.loop-place.place i
    (λ j. not (slice_index c.args.a.now j == slice_index c.args.b.now j))
    (one_small differs) (omega arith) low c.loop-place.invariant
    (λ j one. one_told differs j one
    ∙ ap (λ k. not (slice_index c.args.a.now k == slice_index c.args.b.now k)) (omega arith)))
