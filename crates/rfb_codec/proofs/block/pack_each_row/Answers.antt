use Rattle.std.proofs.Common.{◌≡◌, ◌+◌, ◌*◌, ◌≤◌, arith}
use Rattle.std.proofs.Math.Nat.{mul-le-mul_right}
use Rattle.rfb_codec.proofs.BlockLemmas.{row_written}
use Rattle.rfb_codec.proofs.block.pack_each_row.Goals as goal

pub loop-y-preserved : goal.loop-y-preserved
loop-y-preserved c =
    let n = c.loop-y.y in
    let w = c.args.rect.w in
    let start : c.from.result * c.from-columns.result ≡ n * w = rw (c.from.ensures, c.from-columns.ensures) in
    let row : (n + 1) * w ≤ c.args.rect.h * w = mul-le-mul_right w (omega (arith, c.loop-y-test.true)) in
    let written = row_written c.args.format c.args.picture.now c.args.rect n _ _ c.args.span c.loop-y.pixels
    c.pack_row.new.pixels c.row-row.result.now start c.requires.span.0
    (omega (arith, row, start, c.requires.room, c.loop-y.auto)) c.row-row.ensures.len c.row-row.ensures.value
    c.pack_row.ensures.value (c.loop-y.invariant.packed, c.loop-y.invariant.fits) c.pack_row.ensures.bound in
    record { packed = written.0; fits = written.1 }
