use Rattle.std.proofs.Common.{◌≡◌, ◌∙◌, ℕ, ◌+◌, ◌-◌, ◌*◌, ap, sym, arith}
use Rattle.rfb_server.specs.update.Gains.{right_before, claims_row, won_by}
use Rattle.rfb_server.proofs.ClaimedCountLemmas.{row_taken, row_passed, sum_up}
use Rattle.rfb_server.proofs.ClaimedRowLemmas.{before_line}
use Rattle.rfb_server.proofs.session.Session.won_in.Goals as goal
use Rattle.rfb_server.proofs.session.Session.won_in.Goals.{then-has+else-won-most, else-has}

pub returns-then-won-most-clause-few : goal.returns-then-won-most-clause-few
returns-then-won-most-clause-few c =
    let screen = c.args.screen.now in
    let s = c.args.self.now in
    let hint = c.args.hint in
    let l = c.loop-row in
    let right = c.before_in_row-right in
    let claimed = claims_row c.args.claim.now hint in
    let won = won_by (right_before screen s hint) hint.to in
    let known = rw c.row_of.ensures at right.ensures.value in
    let here = ap (λ (n : ℕ). hint.to.w - n) (known ∙ before_line screen s hint l.row) in
    let more = ap (λ (n : ℕ). n - right.result) c.from.ensures ∙ here in
    let sum = row_taken claimed won l.row l.won (c.from.result - right.result)
    (sym c.has.ensures ∙ c.if-has.true) l.invariant.value more in
    omega (arith, sum, sum_up claimed won (l.row + 1) hint.to.h (omega arith))

pub loop-row-preserved : goal.loop-row-preserved
loop-row-preserved c =
    let screen = c.args.screen.now in
    let s = c.args.self.now in
    let hint = c.args.hint in
    let l = c.loop-row in
    let claimed = claims_row c.args.claim.now hint in
    let won = won_by (right_before screen s hint) hint.to in
    let next : (c.loop-row.row + 1) * c.args.hint.to.w
    ≡ c.loop-row.row * c.args.hint.to.w + c.args.hint.to.w = grind arith in
    elim c.if-has.branch [
      | then-has+else-won-most w ↦
          let right = w.before_in_row-right in
          let known = rw w.row_of.ensures at right.ensures.value in
          let here = ap (λ (n : ℕ). hint.to.w - n) (known ∙ before_line screen s hint l.row) in
          let more = ap (λ (n : ℕ). n - right.result) w.from.ensures ∙ here in
          record {
            value = w.won-is ∙ row_taken claimed won l.row l.won (w.from.result - right.result)
                (sym c.has.ensures ∙ w.if-has.true) l.invariant.value more;
            few = omega (arith, w.won-is, w.from.ensures, next, l.invariant.few);
          }
      | else-has w ↦
          record {
            value = w.won-is ∙ row_passed claimed won l.row l.won
                (sym c.has.ensures ∙ w.if-has.false) l.invariant.value;
            few = omega (arith, w.won-is, next, l.invariant.few);
          }
    ]
