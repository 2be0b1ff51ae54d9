use Rattle.std.proofs.Common.{arith}
use Rattle.std.proofs.lemmas.Simd.{length-chunk}
use Rattle.rfb_pixel.proofs.CountLemmas.{equal_chunks, equal-le}
use Rattle.rfb_pixel.proofs.rows.count_same.Goals as goal

pub returns-clause-value : goal.returns-clause-value
returns-clause-value c = equal_chunks c.args.a.now c.args.b.now c.args.at c.requires.left c.requires.right

pub returns-clause-bound : goal.returns-clause-bound
returns-clause-bound c =
    rw (equal_chunks c.args.a.now c.args.b.now c.args.at c.requires.left c.requires.right)
    (omega (
      arith,
      length-chunk c.args.at 16 c.args.a.now c.requires.left,
      equal-le (lib.Lanes.chunk c.args.at 16 c.args.a.now) (lib.Lanes.chunk c.args.at 16 c.args.b.now),
    ))
