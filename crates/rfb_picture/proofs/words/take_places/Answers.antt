use Rattle.std.proofs.Common.{◌≡◌, ◌&&◌, refl, true, false, nat_le, nat_lt, arith}
use Rattle.std.proofs.lemmas.Bool.Decides.{nat_tests}
use Rattle.rfb_picture.specs.layout.Plane.{has_at}
use Rattle.rfb_picture.proofs.TakenWordLemmas.{one_column_taken, and_true}
use Rattle.rfb_picture.proofs.words.take_places.Goals as goal

pub returns-then-top-bottom : goal.returns-then-top-bottom
returns-then-top-bottom c =
    λ k y i p l.
    let none : (nat_le c.args.top y && nat_lt y c.args.bottom) ≡ false = grind (arith, nat_tests) in
    rw (none, and_true) refl

pub loop-column-preserved : goal.loop-column-preserved
loop-column-preserved c =
    λ k y i p l.
    one_column_taken c.loop-column.column k (nat_le c.args.top y && nat_lt y c.args.bottom) _ _
    (has_at c.args.words.now c.args.across y k i) (has_at c.args.other.now c.args.across y k i)
    (c.loop-column.invariant k y i p l) (c.take_column.ensures k y i p l)

pub returns : goal.returns
returns c =
    λ k y i p l.
    let all : nat_lt k c.loop-column.column ≡ true = grind (arith, nat_tests) in
    rw all at (c.loop-column.invariant k y i p l)
