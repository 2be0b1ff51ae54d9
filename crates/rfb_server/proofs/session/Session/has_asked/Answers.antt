use Rattle.std.proofs.Common.{◌<◌, arith}
use Rattle.rfb_server.proofs.RoomLemmas.{corner_asked, found_asked}
use Rattle.rfb_server.proofs.session.Session.has_asked.Goals as goal

pub returns-then-is_asked-clause-some : goal.returns-then-is_asked-clause-some
returns-then-is_asked-clause-some c = λ e.
    let wide : 0 < c.args.cell.w = omega (arith, c.if-cell-gt0.true) in
    let high : 0 < c.args.cell.h = omega (arith, c.if-cell-gt0-2.true) in
    corner_asked c.args.self.now.area c.args.cell wide high (rw c.is_asked.ensures at c.if-is_asked.true)

pub returns-clause-some : goal.returns-clause-some
returns-clause-some c = λ e.
    found_asked c.args.self.now.area c.args.cell c.bounds_in.result c.bounds_in.ensures
    (rw c.is_some.ensures at e)
