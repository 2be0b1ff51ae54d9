use Rattle.std.proofs.Common.{Some}
use Rattle.rfb_picture.proofs.EdgesLemmas.{joined_first, joined_second, joined_both}
use Rattle.rfb_picture.proofs.edges.joined.Goals as goal

pub returns-in-None : goal.returns-in-None
returns-in-None c =
    λ p first second all parts was_a was_b.
    joined_second p first second all c.args.b parts (rw c.in-None.is at was_a) was_b

pub returns-in-None-b : goal.returns-in-None-b
returns-in-None-b c =
    λ p first second all parts was_a was_b.
    joined_first p first second all (Some c.in-Some.a) parts (rw c.in-Some.is at was_a)
    (rw c.in-None-b.is at was_b)

pub returns-in-Some-b : goal.returns-in-Some-b
returns-in-Some-b c =
    λ p first second all parts was_a was_b.
    rw (c.min.ensures, c.max.ensures, c.min-in-Some-b.ensures, c.max-in-Some-b.ensures)
    (joined_both p first second all c.in-Some.a c.in-Some-b.b parts (rw c.in-Some.is at was_a)
    (rw c.in-Some-b.is at was_b))
