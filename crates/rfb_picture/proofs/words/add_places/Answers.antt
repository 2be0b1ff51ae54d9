use Rattle.std.proofs.Common.{arith}
use Rattle.rfb_picture.specs.Places.{has_bit}
use Rattle.rfb_picture.specs.layout.Plane.{has_at}
use Rattle.rfb_picture.proofs.WordLemmas.{one_column_more}
use Rattle.rfb_picture.proofs.words.add_places.Goals as goal

pub loop-column-preserved : goal.loop-column-preserved
loop-column-preserved c =
    λ k y i p l.
    let mask = rw (c.from-from.ensures, c.from.ensures) at (c.columns_between-mask.ensures i l) in
    let here = rw (c.from-top.ensures, c.from-2.ensures) at (c.add_column.ensures k y i p) in
    one_column_more c.args.rect c.loop-column.column k y i _ _
    (has_at c.args.words.now c.args.across y k i) (has_bit c.columns_between-mask.result i)
    (λ _. mask) (c.loop-column.invariant k y i p l) here

pub returns : goal.returns
returns c = grind arith
