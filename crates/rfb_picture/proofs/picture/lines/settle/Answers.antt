use Rattle.std.proofs.Common.{length, arith, sym}
use Rattle.rfb_picture.proofs.SettleLemmas.{Steps, settles_on, one_more, stays_in_line}
use Rattle.rfb_picture.proofs.picture.lines.settle.Given.{Over}
use Rattle.rfb_picture.proofs.picture.lines.settle.Goals as goal

-- what a turn of the inner loop does
step : (g : Over) (c : goal.After-places-1 g) → Steps c.args.width (length c.args.lines.now) c.loop-row.row
    c.from-line.result c.loop-line.lines c.swap.new.self c.loop-line.places c.swap_lines.new.places
step g c = record {
  below = omega (arith, c.loop-row-test.true);
  line = sym c.from-line.ensures;
  other = λ e. absurd (omega (arith, c.loop-line-test.true, c.from.ensures, c.from-line.ensures, e));
  long = c.swap.ensures.len;
  here = c.swap.ensures.by_index.0 0;
  there = c.swap.ensures.by_index.1 0;
  others = λ k p q. c.swap.ensures.by_index.2 k 0 p q;
  whole = c.swap_lines.auto.places;
  places = λ x line d p. rw c.from-in-loop-line.ensures at (c.swap_lines.ensures x line d p);
}

pub loop-line-smaller : goal.loop-line-smaller
loop-line-smaller g c =
    let kept = c.loop-line.invariant.settles.kept in
    one_more c.args.width (length c.args.lines.now) c.loop-row.row c.from-line.result c.loop-line.lines
    c.swap.new.self c.loop-line.places c.swap_lines.new.places kept.lines_are (step g c)

pub loop-line-preserved : goal.loop-line-preserved
loop-line-preserved g c =
    let settling = c.loop-line.invariant.settles in
    record {
      settles = settles_on c.args.width (length c.args.lines.now) c.loop-row.row c.from-line.result c.args.lines.now
          c.loop-line.lines c.swap.new.self c.args.places.now c.loop-line.places c.swap_lines.new.places settling
          (step g c);
      rows = λ i l.
          stays_in_line c.args.width (length c.args.lines.now) c.loop-row.row c.from-line.result c.loop-line.lines
          c.swap.new.self c.loop-line.places c.swap_lines.new.places settling.kept.lines_are (step g c) i
          (omega (arith, l, c.loop-row-test.true)) (c.loop-line.invariant.rows i l);
    }
