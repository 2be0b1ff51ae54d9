use Rattle.std.proofs.Common.{◌≡◌, ◌∙◌, ◌≤◌, ℕ, ◌+◌, ◌*◌, ◌-◌, ◌<◌, List, ap, arith, drop, length, get_or, take}
use Rattle.std.proofs.Common.{length-drop}
use Rattle.std.proofs.Math.Nat.{mul-le-mul_right}
use Rattle.std.proofs.lemmas.List.{length-take-le}
use Rattle.rfb_picture.proofs.CopyLaws.{row_fits}
use Rattle.rfb_codec.proofs.HextileEncodeLemmas.{cut_more, row_at}
use Rattle.rfb_codec.proofs.hextile.encode.cutting.cut.Goals as goal

pub loop-row-preserved : goal.loop-row-preserved
loop-row-preserved c =
    let tile = c.args.tile in
    let columns = c.args.block.now.width in
    let pixels = c.pixels.result.now in
    let start = (c.from.result + c.loop-row.row) * c.from-columns.result + c.from-in-loop-row.result in
    let size = start + c.from-in-loop-row-2.result - start in
    let wide : size ≡ tile.w = omega (arith, c.from-in-loop-row-2.ensures) in
    let place : (x : ℕ) → start + x ≡ (tile.y + c.loop-row.row) * columns + (tile.x + x) = λ x.
    rw (c.from.ensures, c.from-columns.ensures, c.width.ensures.value, c.from-in-loop-row.ensures) (omega arith) in
    let inside = c.requires.inside in
    let below : c.loop-row.row < tile.h = omega (arith, c.loop-row-test.true, c.from-row-end.ensures) in
    let whole : (tile.y + tile.h) * columns ≤ length pixels =
    rw (c.pixels.ensures.value, c.pixels.ensures.whole) (mul-le-mul_right columns inside.1) in
    let fits = row_fits tile.y c.loop-row.row tile.h tile.x tile.w columns (length pixels) below inside.0 whole in
    let at_start = place 0 in
    let row : length (take size (drop start pixels)) ≡ size =
    length-take-le size (drop start pixels) (rw length-drop (omega (arith, fits, at_start, wide))) in
    record {
      size = rw (c.append_row.ensures.len, c.loop-row.invariant.size) (omega (arith, row, wide));
      value = λ x y p q. rw c.append_row.ensures.items
          (cut_more c.loop-row.row tile.w tile.x tile.y columns c.loop-row.pixels.items (take size (drop start pixels))
          c.args.block.now.places c.loop-row.invariant.size (row ∙ wide)
          (λ k below_it. row_at pixels start tile.w size k wide below_it
          ∙ ap (λ (all : List ℕ). get_or all (start + k) 0) c.pixels.ensures.value
          ∙ ap (λ (i : ℕ). get_or c.args.block.now.places i 0) (place k))
          c.loop-row.invariant.value x y p q);
    }
