use Rattle.std.proofs.Common.{◌≡◌, ◌∙◌, ◌==◌, cond, slice_index, arith}
use Rattle.rfb_pixel.proofs.CountLemmas.{equal_none, equal_one, equal_split, one_at_most, one_if}
use Rattle.rfb_pixel.proofs.rows.count_equal.Goals as goal

pub loop-at-init : goal.loop-at-init
loop-at-init c = record { within = omega arith; counted = equal_none; few = omega arith }

pub loop-at-preserved : goal.loop-at-preserved
loop-at-preserved c =
    let l = c.loop-at in
    record {
      within = omega arith;
      counted = omega (
        arith,
        l.invariant.counted,
        c.count_same-count.ensures.value,
        equal_split l.at 16 c.args.a.now c.args.b.now (omega arith) (omega arith),
      );
      few = omega (arith, l.invariant.few, c.count_same-count.ensures.bound);
    }

pub loop-place-preserved : goal.loop-place-preserved
loop-place-preserved c =
    let l = c.loop-place in
    let a = c.args.a.now in
    let b = c.args.b.now in
    let same = slice_index a l.place == slice_index b l.place in
    let one : c.from-count.result ≡ cond same 1 0 = c.from-count.ensures ∙ one_if same in
    let split = equal_split l.place 1 a b (omega arith) (omega arith) in
    let here = equal_one a b l.place (omega arith) (omega arith) in
    record {
      counted = omega (arith, l.invariant.counted, one, split, here);
      few = omega (arith, l.invariant.few, one, one_at_most same);
    }
