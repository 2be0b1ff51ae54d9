use Rattle.std.proofs.Common.{◌≡◌, ◌∙◌, ◌+◌, ◌-◌, slice_index, slice_index_or, ap, sym, inl, inr, arith}
use Rattle.std.proofs.lemmas.Bool.{cases_lt}
use Rattle.std.proofs.lemmas.Simd.{get_or-chunk, get_or-put_chunk_at, get_or-put_chunk_below, length-put_chunk}
use Rattle.rfb_pixel.specs.Format.{pixel_of}
use Rattle.rfb_pixel.specs.bits.Lanes.{laned}
use Rattle.rfb_pixel.proofs.format.rows.pack_eight_at.Goals as goal

pub returns-clause-packed : goal.returns-clause-packed
returns-clause-packed g c = λ k d below.
    let at = c.args.at in
    let row = c.args.pixels.now in
    let lanes = c.pack_eight.result in
    let eight = c.pack_eight.ensures.len in
    elim (cases_lt k at) [
      | inl low ↦
          let same = get_or-put_chunk_below at row lanes k 0 low in
          let front = c.requires.front k d low in
          (same ∙ front.0, rw same front.1)
      | inr high ↦
          let place : at + (k - at) ≡ k = omega (arith, high) in
          let lane = ap (λ i. slice_index (lib.Lanes.put_chunk at row lanes) i) (sym place)
          ∙ get_or-put_chunk_at at row lanes (k - at) 0 (omega (arith, eight)) (omega (arith, eight)) in (
            lane
                ∙ c.pack_eight.ensures.value (k - at) d (omega arith)
                ∙ ap (pixel_of (laned g.row.NUMBER)) (get_or-chunk at (at + 8 - at) c.args.colours.now (k - at) d
                (omega arith) ∙ ap (λ i. slice_index_or c.args.colours.now i d) place),
            rw lane (c.pack_eight.ensures.bound (k - at) (omega arith)),
          )
    ]

pub returns-clause-len : goal.returns-clause-len
returns-clause-len g c = length-put_chunk c.args.at c.args.pixels.now c.pack_eight.result
