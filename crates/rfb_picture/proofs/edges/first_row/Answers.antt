use Rattle.std.proofs.Common.{◌+◌, ◌*◌, slice_index_or, arith, inl, inr}
use Rattle.std.specs.Int.Bits.{and_lt}
use Rattle.std.proofs.lemmas.Bool.{cases_eq}
use Rattle.rfb_picture.proofs.GatherLemmas.{some_masked, none_masked, none_in_rows, no_marks_join}
use Rattle.rfb_picture.proofs.edges.first_row.Goals as goal

pub loop-left-preserved : goal.loop-left-preserved
loop-left-preserved c =
    let from = c.loop-left.from in
    record {
      order = omega arith;
      left = omega arith;
      none = no_marks_join _ c.args.top from (from + 4) c.loop-left.invariant.none
          (none_in_rows _ _ _ _ from (from + 4) c.four_rows.result c.four_rows.ensures.each
          c.if-four_rows-strip-eq0.true);
    }

pub returns-then-words-row-ne0 : goal.returns-then-words-row-ne0
returns-then-words-row-ne0 c =
    let index = c.loop-row.row * c.args.strip.across + c.args.strip.column in
    record {
      above = omega arith;
      below = omega arith;
      none = c.loop-row.invariant.none;
      here = some_masked c.args.words.now c.args.strip.across c.args.strip.column c.args.strip.mask c.loop-row.row
          c.if-words-row-ne0.true
          (and_lt 64 (slice_index_or c.args.words.now index 0) c.args.strip.mask
          (omega (arith, c.type_inv.words index)) (omega arith));
    }

pub loop-row-preserved : goal.loop-row-preserved
loop-row-preserved c = record {
  order = omega arith;
  none = λ y i p l m.
      elim (cases_eq y c.loop-row.row) [
        | inl same ↦
            rw same (none_masked c.args.words.now c.args.strip.across c.args.strip.column c.args.strip.mask
            c.loop-row.row i c.if-words-row-ne0.false)
        | inr other ↦ c.loop-row.invariant.none y i p (omega arith) m
      ];
}
