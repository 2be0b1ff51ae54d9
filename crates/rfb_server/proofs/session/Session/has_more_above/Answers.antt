use Rattle.std.proofs.Common.{◌-◌, refl, arith}
use Rattle.rfb_server.specs.update.Gains.{right_before}
use Rattle.rfb_server.proofs.RightRowsLemmas.{before_row, before_left, few_lines, few_in}
use Rattle.rfb_server.proofs.session.Session.has_more_above.Goals as goal

pub loop-row-preserved : goal.loop-row-preserved
loop-row-preserved c =
    let before = before_row c.args.screen.now c.args.self.now c.args.hint c.row_of.result c.loop-row.row _ _
    c.row_of.ensures refl c.before_in_row-before.ensures.value in
    omega (arith, before, c.loop-row.invariant)

pub returns-then-after-before-clause-more : goal.returns-then-after-before-clause-more
returns-then-after-before-clause-more c =
    let before = before_left c.args.screen.now c.args.self.now c.args.hint c.row_of.result c.loop-row.row _ _
    c.row_of.ensures c.args.top (omega arith) refl c.before_in_row-before.ensures.value in
    omega (
      arith,
      c.if-after-before.true,
      c.places_in-left.ensures,
      before,
      c.loop-row.invariant,
      c.requires.after,
      c.requires.below,
    )

pub returns-then-before-after-clause-no_more : goal.returns-then-before-after-clause-no_more
returns-then-before-after-clause-no_more c = λ more.
    let before = before_left c.args.screen.now c.args.self.now c.args.hint c.row_of.result c.loop-row.row _ _
    c.row_of.ensures c.args.top (omega arith) refl c.before_in_row-before.ensures.value in
    omega (arith, more, c.if-before-after.true, before, c.loop-row.invariant, c.requires.after, c.requires.below)

pub overflow_add-before : goal.overflow_add-before
overflow_add-before c =
    let p = right_before c.args.screen.now c.args.self.now c.args.hint in
    let all = few_lines p c.args.self.now c.args.hint c.args.hint.to.h c.requires.copy (omega arith) in
    let before = few_lines p c.args.self.now c.args.hint c.loop-row.row c.requires.copy
    (omega (arith, c.requires.top)) in
    let few = rw c.row_of.ensures at c.before_in_row-before.ensures.few in
    omega (arith, all, before, c.requires.below, c.loop-row.invariant, few)

pub overflow_add-before-in-loop-row : goal.overflow_add-before-in-loop-row
overflow_add-before-in-loop-row c =
    let p = right_before c.args.screen.now c.args.self.now c.args.hint in
    let all = few_lines p c.args.self.now c.args.hint c.args.hint.to.h c.requires.copy (omega arith) in
    let before = few_lines p c.args.self.now c.args.hint c.loop-row.row c.requires.copy
    (omega (arith, c.requires.top)) in
    let left = few_in c.args.self.now c.args.hint (c.args.top - c.loop-row.row - 1) c.args.hint.to.w c.requires.copy
    (omega (arith, c.requires.top)) (omega arith) in
    let few = rw c.row_of.ensures at c.before_in_row-before.ensures.few in
    omega (arith, all, before, left, c.places_in-left.ensures, c.requires.below, c.loop-row.invariant, few)
