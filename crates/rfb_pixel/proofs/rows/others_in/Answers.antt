use Rattle.std.proofs.Common.{◌∙◌, ◌==◌, not, slice_index, ap, arith}
use Rattle.rfb_pixel.proofs.DifferingLemmas.{joined, one_told, one_small}
use Rattle.rfb_pixel.proofs.rows.others_in.Goals as goal

pub loop-at-preserved : goal.loop-at-preserved
loop-at-preserved c = record {
  within = omega arith;
  told = λ i low.
      joined c.loop-at.bits c.sixteen_others.result 16 c.loop-at.at i
      (λ j. not (slice_index c.args.row.now j == c.args.pixel))
      c.sixteen_others.ensures.bound (omega arith) low c.loop-at.invariant.told c.sixteen_others.ensures.value;
}

pub loop-place-preserved : goal.loop-place-preserved
loop-place-preserved c = λ i low.
    let other = not (slice_index c.args.row.now c.loop-place.place == c.args.pixel) in
    rw c.from.ensures
    (joined c.loop-place.bits (mir.Val.bool_byte other) 1 c.loop-place.place i
    (λ j. not (slice_index c.args.row.now j == c.args.pixel))
    (one_small other) (omega arith) low c.loop-place.invariant
    (λ j one. one_told other j one
    ∙ ap (λ k. not (slice_index c.args.row.now k == c.args.pixel)) (omega arith)))
