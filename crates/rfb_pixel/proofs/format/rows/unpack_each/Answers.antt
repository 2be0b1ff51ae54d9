use Rattle.std.proofs.Common.{◌≡◌, ◌∙◌, ◌*◌, ◌+◌, ◌-◌, ◌<◌, ◌≢◌, ap, arith, below_more, drop, length, slice_index_or}
use Rattle.std.proofs.Common.{slice_set, get_or-set_other, get_or-set_same}
use Rattle.rfb_pixel.specs.Format.{colour_of, pixel_number, size_of}
use Rattle.rfb_pixel.proofs.FormatLemmas.{pixel_number-take}
use Rattle.rfb_pixel.proofs.format.rows.unpack_each.Goals as goal

pub loop-k-preserved : goal.loop-k-preserved
loop-k-preserved c =
    let f = c.args.format in
    let size = c.size-size.result in
    let at = c.loop-k.k * size in
    let read : c.take.result ≡ pixel_number f (drop (c.loop-k.k * size_of f) c.args.bytes.now) =
    c.take.ensures
    ∙ pixel_number-take f (drop at c.args.bytes.now) (at + size - at) (omega (arith, c.size-size.ensures.value))
    ∙ ap (λ n. pixel_number f (drop (c.loop-k.k * n) c.args.bytes.now)) c.size-size.ensures.value in
    let shown : c.unpack.result ≡ colour_of f (pixel_number f (drop (c.loop-k.k * size_of f) c.args.bytes.now)) =
    c.unpack.ensures.value ∙ ap (colour_of f) read in
    λ k d. below_more (λ k. slice_index_or (slice_set c.loop-k.colours c.loop-k.k c.unpack.result) k d
    ≡ colour_of f (pixel_number f (drop (k * size_of f) c.args.bytes.now))) c.loop-k.k
    (λ k h. let ne : k ≢ c.loop-k.k = omega arith in rw get_or-set_other (c.loop-k.invariant k d h))
    (let lt : c.loop-k.k < length c.loop-k.colours = omega arith in rw get_or-set_same shown) k
