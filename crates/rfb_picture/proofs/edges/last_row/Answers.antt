use Rattle.std.proofs.Common.{◌≡◌, ◌+◌, ◌-◌, ◌*◌, slice_index_or, arith, inl, inr}
use Rattle.std.specs.Int.Bits.{and_lt}
use Rattle.std.proofs.lemmas.Bool.{cases_eq}
use Rattle.rfb_picture.proofs.GatherLemmas.{some_masked, none_masked, none_in_rows, no_marks_join}
use Rattle.rfb_picture.proofs.edges.last_row.Goals as goal

pub loop-left-preserved : goal.loop-left-preserved
loop-left-preserved c =
    let end = c.loop-left.end in
    let back : end - 4 + 4 ≡ end = omega arith in
    record {
      above = omega arith;
      below = omega arith;
      none = no_marks_join _ (end - 4) end c.args.bottom
          (none_in_rows _ _ _ _ (end - 4) end c.four_rows.result (rw back at c.four_rows.ensures.each)
          c.if-four_rows-strip-eq0.true) c.loop-left.invariant.none;
    }

pub loop-last-preserved : goal.loop-last-preserved
loop-last-preserved c =
    let last = c.loop-last.last in (
      omega arith,
      omega arith,
      λ y i p l m.
          elim (cases_eq y last) [
            | inl same ↦
                rw same (none_masked c.args.words.now c.args.strip.across c.args.strip.column c.args.strip.mask last i
                c.if-words-last-eq0.true)
            | inr other ↦ c.loop-last.invariant.2 y i (omega arith) l m
          ],
    )

pub returns-else-words-last-eq0 : goal.returns-else-words-last-eq0
returns-else-words-last-eq0 c =
    let index = c.loop-last.last * c.args.strip.across + c.args.strip.column in
    record {
      above = c.loop-last.invariant.0;
      below = c.loop-last.invariant.1;
      none = c.loop-last.invariant.2;
      here = some_masked c.args.words.now c.args.strip.across c.args.strip.column c.args.strip.mask c.loop-last.last
          c.if-words-last-eq0.false
          (and_lt 64 (slice_index_or c.args.words.now index 0) c.args.strip.mask
          (omega (arith, c.type_inv.words index)) (omega arith));
    }
