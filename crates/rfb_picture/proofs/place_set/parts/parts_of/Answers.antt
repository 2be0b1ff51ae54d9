use Rattle.std.proofs.Common.{arith}
use Rattle.std.proofs.lemmas.Bool.Decides.{nat_tests}
use Rattle.rfb_picture.proofs.CellLemmas.{parts_all}
use Rattle.rfb_picture.proofs.place_set.parts.parts_of.Goals as goal

pub returns : goal.returns
returns c =
    let (left, right) = c.span_within-columns.ensures.within in
    let (top, bottom) = c.span_within-rows.ensures.within in
    record {
      whole = λ x y p q.
          let column = c.span_within-columns.ensures.whole x p in
          let row = c.span_within-rows.ensures.whole y q in
          rw (← column, ← row) (grind (arith, nat_tests));
      columns = c.span_within-columns.ensures.cells;
      rows = c.span_within-rows.ensures.cells;
      inner_ends = omega arith;
      above_ends = omega arith;
      below_ends = omega arith;
      left_ends = omega arith;
      right_ends = omega arith;
      all = λ x y. parts_all c.args.rect _ x y left right top bottom;
    }
