use Rattle.std.proofs.Common.{◌≡◌, ◌∙◌, ◌*◌, ◌^◌, ◌<◌, ◌≢◌, sym, arith, below_more, length, map, slice_index, slice_set}
use Rattle.std.proofs.Common.{get_or-set_other, get_or-set_same}
use Rattle.std.proofs.lemmas.Grind.{same_number_lists}
use Rattle.std.proofs.lemmas.List.{get_or-map, length-map}
use Rattle.rfb_pixel.specs.Format.{pixel_of, size_of}
use Rattle.rfb_pixel.proofs.format.rows.pack_other.Goals as goal

pub loop-i-preserved : goal.loop-i-preserved
loop-i-preserved c =
    let i = c.loop-i.i in
    let packed = map (pixel_of c.args.format) c.args.colours.now in
    let within : i < length c.loop-i.pixels = omega arith in
    let here : c.pack.result ≡ slice_index packed i =
    c.pack.ensures.value
    ∙ sym (get_or-map (pixel_of c.args.format) c.args.colours.now i _ 0 (omega arith)) in
    record {
      packed = below_more
          (λ k. slice_index (slice_set c.loop-i.pixels i c.pack.result) k ≡ slice_index packed k) i
          (λ k h. let other : k ≢ i = omega arith in
          rw get_or-set_other (c.loop-i.invariant.packed k h))
          (rw get_or-set_same here);
      bound = below_more
          (λ k. slice_index (slice_set c.loop-i.pixels i c.pack.result) k
          < 2 ^ (8 * size_of c.args.format)) i
          (λ k h. let other : k ≢ i = omega arith in
          rw get_or-set_other (c.loop-i.invariant.bound k h))
          (rw get_or-set_same c.pack.ensures.bound);
    }

pub returns-clause-value : goal.returns-clause-value
returns-clause-value c =
    let packed = map (pixel_of c.args.format) c.args.colours.now in
    same_number_lists c.loop-i.pixels packed
    (omega (arith, length-map c.args.colours.now (pixel_of c.args.format)))
    (λ k h. c.loop-i.invariant.packed k (omega arith))
