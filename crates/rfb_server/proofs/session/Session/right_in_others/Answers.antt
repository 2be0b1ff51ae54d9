use Rattle.std.proofs.Common.{◌≡◌, ◌∙◌, ℕ, ◌+◌, ◌*◌, not, ap, sym, arith}
use Rattle.rfb_server.specs.update.Gains.{right_before, right_after, claims_row, counts}
use Rattle.rfb_server.proofs.ClaimedCountLemmas.{row_taken, row_passed}
use Rattle.rfb_server.proofs.ClaimedRowLemmas.{before_line, after_line}
use Rattle.rfb_server.proofs.session.Session.right_in_others.Goals as goal
use Rattle.rfb_server.proofs.session.Session.right_in_others.Goals.{then-not-has, else-not-has}

pub loop-row-preserved : goal.loop-row-preserved
loop-row-preserved c =
    let l = c.loop-row in
    let others = λ (row : ℕ). not (claims_row c.args.claim.now c.args.hint row) in
    let before = counts (right_before c.args.screen.now c.args.self.now c.args.hint) c.args.hint.to in
    let after = counts (right_after c.args.screen.now c.args.self.now c.args.hint) c.args.hint.to in
    let next : (c.loop-row.row + 1) * c.args.hint.to.w
    ≡ c.loop-row.row * c.args.hint.to.w + c.args.hint.to.w = grind arith in
    elim c.if-not-has.branch [
      | then-not-has w ↦
          let right = w.right_in_row-right in
          let here = ap not (sym c.has.ensures ∙ w.if-not-has.true) in
          let known = rw w.row_of.ensures at right.ensures in
          record {
            before = w.before-is ∙ row_taken others before l.row l.before right.result.before here
                l.invariant.before (known.before ∙ before_line c.args.screen.now c.args.self.now c.args.hint l.row);
            after = w.after-is ∙ row_taken others after l.row l.after right.result.after here
                l.invariant.after (known.after ∙ after_line c.args.screen.now c.args.self.now c.args.hint l.row);
            few = (
              omega (arith, w.before-is, next, known.few, l.invariant.few),
              omega (arith, w.after-is, next, known.few, l.invariant.few),
            );
          }
      | else-not-has w ↦
          let here = ap not (sym c.has.ensures ∙ w.if-not-has.false) in
          record {
            before = w.before-is
                ∙ row_passed others before l.row l.before here l.invariant.before;
            after = w.after-is ∙ row_passed others after l.row l.after here l.invariant.after;
            few = (
              omega (arith, w.before-is, next, l.invariant.few),
              omega (arith, w.after-is, next, l.invariant.few),
            );
          }
    ]

pub returns-clause-after : goal.returns-clause-after
returns-clause-after c =
    let last : c.loop-row.row ≡ c.args.hint.to.h = omega arith in
    rw last at c.loop-row.invariant.after
