use Rattle.std.proofs.Common.{◌≡◌, ◌+◌, ◌*◌, arith, bit_and, slice_index}
use Rattle.std.specs.Int.Bits.{and_lt}
use Rattle.std.proofs.lemmas.Bool.{and_parts, and_from}
use Rattle.rfb_picture.specs.Places.{has_bit}
use Rattle.rfb_picture.specs.layout.Plane.{has_at}
use Rattle.rfb_picture.proofs.WordLemmas.{has_bit-and}
use Rattle.rfb_picture.proofs.GatherLemmas.{gathered}
use Rattle.rfb_picture.proofs.edges.gather.Goals as goal

pub returns-in-Some : goal.returns-in-Some
returns-in-Some c =
    let f = c.in-Some.first in
    let mask = c.args.strip.mask in
    let across = c.args.strip.across in
    let column = c.args.strip.column in
    let word = slice_index c.args.words.now (f * across + column) in
    let first = c.in-Some.ensures in
    gathered _ c.args.top c.args.bottom f f (bit_and word mask) first
    (record {
      above = omega arith;
      below = omega (arith, first.below);
      none = λ y i p l m. absurd (omega (arith, c.if-first-bottom.true, p, l));
      here = first.here;
    })
    (and_lt 64 word mask (omega arith) (omega arith))
    (λ y i p l h.
    let here : y ≡ f = omega (arith, p, l) in
    rw has_bit-and (rw here at h))
    (λ i h. (f, omega arith, omega arith, rw has_bit-and at h))

pub returns-in-Some-2 : goal.returns-in-Some-2
returns-in-Some-2 c =
    let mask = c.args.strip.mask in
    let bits = c.all_bits.result in
    let across = c.args.strip.across in
    let column = c.args.strip.column in
    gathered _ c.args.top c.args.bottom c.in-Some.first c.last_row-last.result (bit_and bits mask) c.in-Some.ensures
    c.last_row-last.ensures (and_lt 64 bits mask (omega arith) (omega arith))
    (λ y i p l h.
    let (marked, masked) = and_parts (has_at c.args.words.now across y column i) (has_bit mask i) h in
    rw has_bit-and (and_from (has_bit bits i) (has_bit mask i) (c.all_bits.ensures.each y i p l marked) masked))
    (λ i h.
    let (set, masked) = and_parts (has_bit bits i) (has_bit mask i) (rw has_bit-and at h) in
    let (y, p, l, marked) = c.all_bits.ensures.some i set in
    (y, p, l, and_from (has_at c.args.words.now across y column i) (has_bit mask i) marked masked))
