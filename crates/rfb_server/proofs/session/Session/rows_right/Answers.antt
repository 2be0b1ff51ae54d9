use Rattle.std.proofs.Common.{◌≡◌, ◌+◌, ◌*◌, ◌≤◌, sym, arith}
use Rattle.rfb_server.proofs.RightRowsLemmas.{after_row}
use Rattle.rfb_server.proofs.session.Session.rows_right.Goals as goal

pub loop-row-preserved : goal.loop-row-preserved
loop-row-preserved c =
    let w = c.args.hint.to.w in
    let row = c.loop-row.row in
    let right = c.after_in_row-right in
    let few : right.result ≤ c.args.hint.to.w = rw c.row_of.ensures at right.ensures.few in
    let more = after_row c.args.screen.now c.args.self.now c.args.hint c.row_of.result row (row * w) right.result
    c.row_of.ensures (sym c.loop-row.invariant) right.ensures.value in
    let next : (row + 1) * w ≡ row * w + w = grind arith in
    omega (arith, more, next, few, c.if-right-from.false, c.from.ensures)

pub returns-then-right-from-clause-other : goal.returns-then-right-from-clause-other
returns-then-right-from-clause-other c = λ _.
    let w = c.args.hint.to.w in
    let row = c.loop-row.row in
    let more = after_row c.args.screen.now c.args.self.now c.args.hint c.row_of.result row (row * w) _
    c.row_of.ensures (sym c.loop-row.invariant) c.after_in_row-right.ensures.value in
    let next : (row + 1) * w ≡ row * w + w = grind arith in
    omega (arith, more, next, c.if-right-from.true, c.from.ensures)
