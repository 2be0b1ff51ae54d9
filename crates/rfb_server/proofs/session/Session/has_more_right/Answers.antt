use Rattle.std.proofs.Common.{◌-◌, sym, arith}
use Rattle.rfb_server.specs.update.Gains.{right_before, right_after}
use Rattle.rfb_server.proofs.QuietLemmas.{rows_bound}
use Rattle.rfb_server.proofs.RightRowsLemmas.{before_row, after_row, before_left, after_left, few_lines, few_in}
use Rattle.rfb_server.proofs.session.Session.has_more_right.Goals as goal

pub loop-row-init : goal.loop-row-init
loop-row-init c = record {
  order = omega arith;
  after = rw (c.places_in-above.ensures) (sym c.requires.right);
  before = omega arith;
}

pub loop-row-preserved : goal.loop-row-preserved
loop-row-preserved c =
    let before = before_row c.args.screen.now c.args.self.now c.args.hint c.row_of.result c.loop-row.row _ _
    c.row_of.ensures c.loop-row.invariant.before c.right_in_row-right.ensures.before in
    record {
      order = omega (arith, c.loop-row.invariant.order);
      after = after_row c.args.screen.now c.args.self.now c.args.hint c.row_of.result c.loop-row.row _ _
          c.row_of.ensures c.loop-row.invariant.after c.right_in_row-right.ensures.after;
      before = omega (arith, before);
    }

pub returns-then-after-before-clause-more : goal.returns-then-after-before-clause-more
returns-then-after-before-clause-more c =
    let to = c.args.hint.to in
    let few = rows_bound (right_before c.args.screen.now c.args.self.now c.args.hint) to.x to.y to.w c.args.top in
    let before = before_left c.args.screen.now c.args.self.now c.args.hint c.row_of.result c.loop-row.row _ _
    c.row_of.ensures to.h (omega arith) c.loop-row.invariant.before c.right_in_row-right.ensures.before in
    let after = after_left c.args.screen.now c.args.self.now c.args.hint c.row_of.result c.loop-row.row _ _
    c.row_of.ensures to.h (omega arith) c.loop-row.invariant.after c.right_in_row-right.ensures.after in
    omega (arith, c.if-after-before.true, c.places_in-left.ensures, c.places_in-above.ensures, before, after, few)

pub returns-then-before-after-clause-no_more : goal.returns-then-before-after-clause-no_more
returns-then-before-after-clause-no_more c = λ more.
    let h = c.args.hint.to.h in
    let before = before_left c.args.screen.now c.args.self.now c.args.hint c.row_of.result c.loop-row.row _ _
    c.row_of.ensures h (omega arith) c.loop-row.invariant.before c.right_in_row-right.ensures.before in
    let after = after_left c.args.screen.now c.args.self.now c.args.hint c.row_of.result c.loop-row.row _ _
    c.row_of.ensures h (omega arith) c.loop-row.invariant.after c.right_in_row-right.ensures.after in
    omega (arith, more, c.if-before-after.true, c.places_in-left.ensures, before, after)

pub overflow_add-after : goal.overflow_add-after
overflow_add-after c =
    let after = few_lines (right_after c.args.screen.now c.args.self.now c.args.hint) c.args.self.now c.args.hint
    c.loop-row.row c.requires.copy (omega arith) in
    omega (arith, after, c.loop-row.invariant.after, rw c.row_of.ensures at c.right_in_row-right.ensures.few)

pub overflow_add-before : goal.overflow_add-before
overflow_add-before c =
    let before = few_lines (right_before c.args.screen.now c.args.self.now c.args.hint) c.args.self.now c.args.hint
    c.loop-row.row c.requires.copy (omega arith) in
    omega (arith, before, c.loop-row.invariant.before, rw c.row_of.ensures at c.right_in_row-right.ensures.few)

pub overflow_add-before-in-loop-row : goal.overflow_add-before-in-loop-row
overflow_add-before-in-loop-row c =
    let before = few_lines (right_before c.args.screen.now c.args.self.now c.args.hint) c.args.self.now c.args.hint
    c.loop-row.row c.requires.copy (omega arith) in
    let above = few_in c.args.self.now c.args.hint c.args.top c.args.hint.to.w c.requires.copy
    c.requires.top (omega arith) in
    let few = rw c.row_of.ensures at c.right_in_row-right.ensures.few in
    omega (arith, before, above, c.places_in-above.ensures, c.loop-row.invariant.before, few)

pub overflow_add-before-in-loop-row-2 : goal.overflow_add-before-in-loop-row-2
overflow_add-before-in-loop-row-2 c =
    let left = few_in c.args.self.now c.args.hint (c.args.hint.to.h - c.loop-row.row - 1) c.args.hint.to.w
    c.requires.copy (omega arith) (omega arith) in
    let above = few_in c.args.self.now c.args.hint c.args.top c.args.hint.to.w c.requires.copy
    c.requires.top (omega arith) in
    let before = few_lines (right_before c.args.screen.now c.args.self.now c.args.hint) c.args.self.now c.args.hint
    c.loop-row.row c.requires.copy (omega arith) in
    let few = rw c.row_of.ensures at c.right_in_row-right.ensures.few in
    omega (
      arith,
      left,
      above,
      before,
      c.places_in-left.ensures,
      c.places_in-above.ensures,
      c.loop-row.invariant.before,
      few,
    )

pub overflow_add-after-in-loop-row : goal.overflow_add-after-in-loop-row
overflow_add-after-in-loop-row c =
    let left = few_in c.args.self.now c.args.hint (c.args.hint.to.h - c.loop-row.row - 1) c.args.hint.to.w
    c.requires.copy (omega arith) (omega arith) in
    let after = few_lines (right_after c.args.screen.now c.args.self.now c.args.hint) c.args.self.now c.args.hint
    c.loop-row.row c.requires.copy (omega arith) in
    let few = rw c.row_of.ensures at c.right_in_row-right.ensures.few in
    omega (arith, left, after, c.places_in-left.ensures, c.loop-row.invariant.after, few)
