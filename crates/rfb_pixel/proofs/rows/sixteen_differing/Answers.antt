use Rattle.rfb_pixel.proofs.DifferingLemmas.{sixteen_is, sixteen_bound, sixteen_bits}
use Rattle.rfb_pixel.proofs.rows.sixteen_differing.Goals as goal

pub returns-clause-value : goal.returns-clause-value
returns-clause-value c = λ i low.
    rw (sixteen_is c.args.a.now c.args.b.now c.args.at c.requires.left c.requires.right)
    (sixteen_bits c.args.a.now c.args.b.now c.args.at i c.requires.left c.requires.right low)

pub returns-clause-bound : goal.returns-clause-bound
returns-clause-bound c =
    rw (sixteen_is c.args.a.now c.args.b.now c.args.at c.requires.left c.requires.right)
    (sixteen_bound c.args.a.now c.args.b.now c.args.at c.requires.left c.requires.right)
