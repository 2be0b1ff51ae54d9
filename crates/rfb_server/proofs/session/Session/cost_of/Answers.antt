use Rattle.std.proofs.Common.{arith}
use Rattle.rfb_server.specs.update.Sends.{may_need}
use Rattle.rfb_server.proofs.RoomLemmas.{cost_cell, cost_nothing, none_asked, room_asked}
use Rattle.rfb_server.proofs.session.Session.cost_of.Goals as goal

pub returns-then-not-has_asked-clause-enough : goal.returns-then-not-has_asked-clause-enough
returns-then-not-has_asked-clause-enough c = λ across n other here is.
    let s = c.args.self.now in
    cost_nothing s.known.width s.known.height across (may_need s.marks s.area) s.format _ n c.args.cell other here is
    (none_asked s.marks s.area c.args.cell (c.has_asked.ensures.none c.if-not-has_asked.true))

pub returns-clause-enough : goal.returns-clause-enough
returns-clause-enough c = λ across n other here is.
    let s = c.args.self.now in
    rw (c.size.ensures.value, c.from.ensures, c.from-2.ensures)
    (cost_cell s.known.width s.known.height across (may_need s.marks s.area) s.format n c.args.cell other here is)

pub returns-clause-most : goal.returns-clause-most
returns-clause-most c =
    let s = c.args.self.now in
    let room = room_asked s.format s.area c.args.cell (c.has_asked.ensures.some c.if-not-has_asked.false) in
    rw (c.size.ensures.value, c.from.ensures, c.from-2.ensures, room) (omega arith)
