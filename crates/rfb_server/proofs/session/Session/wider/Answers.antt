use Rattle.std.proofs.Common.{◌+◌, arith}
use Rattle.rfb_picture.specs.Places.{NoneInRow}
use Rattle.rfb_server.specs.update.Needs.{needs_of}
use Rattle.rfb_server.proofs.NeedingBits.{first_left, last_right, none_left, none_right, none_between}
use Rattle.rfb_server.proofs.session.Session.wider.Goals.{Then-due-eq0}
use Rattle.rfb_server.proofs.session.Session.wider.Goals as goal

-- no place of the row needs sending where the word has no bit
none : (c : Then-due-eq0) → NoneInRow (needs_of c.args.screen.now c.args.self.now) c.args.y c.args.zone.x
    (c.args.zone.x + c.args.zone.w)
none c =
    none_between (needs_of c.args.screen.now c.args.self.now) c.args.y c.args.zone.x (c.args.zone.x + c.args.zone.w)
    c.needed_between-due.result c.needed_between-due.ensures (omega (arith, c.if-due-eq0.true)) (omega arith)

pub returns-then-due-eq0-clause-first : goal.returns-then-due-eq0-clause-first
returns-then-due-eq0-clause-first c =
    none_left (needs_of c.args.screen.now c.args.self.now) c.args.y c.args.zone.x (c.args.zone.x + c.args.zone.w)
    c.args.given.first (none (goal.at.returns-then-due-eq0-clause-first c).Then-due-eq0)
    c.requires.given.0 (omega (arith, c.requires.given))

pub returns-then-due-eq0-clause-end : goal.returns-then-due-eq0-clause-end
returns-then-due-eq0-clause-end c =
    none_right (needs_of c.args.screen.now c.args.self.now) c.args.y c.args.zone.x (c.args.zone.x + c.args.zone.w)
    c.args.given.end (none (goal.at.returns-then-due-eq0-clause-end c).Then-due-eq0)
    (omega (arith, c.requires.given)) c.requires.given.2

pub returns-then-end-left-le64-clause-first : goal.returns-then-end-left-le64-clause-first
returns-then-end-left-le64-clause-first c =
    first_left (needs_of c.args.screen.now c.args.self.now) c.args.y c.args.zone.x (c.args.zone.x + c.args.zone.w)
    c.needed_between-due.result c.args.given.first c.min.result c.needed_between-due.ensures (omega arith)
    (omega (arith, c.if-due-eq0.false)) c.needed_between-due.type_inv c.requires.given.0
    (omega (arith, c.min.ensures))

pub returns-then-end-left-le64-clause-end : goal.returns-then-end-left-le64-clause-end
returns-then-end-left-le64-clause-end c =
    last_right (needs_of c.args.screen.now c.args.self.now) c.args.y c.args.zone.x (c.args.zone.x + c.args.zone.w)
    c.needed_between-due.result c.args.given.end c.max.result c.needed_between-due.ensures (omega arith)
    (omega (arith, c.if-due-eq0.false)) c.needed_between-due.type_inv c.requires.given.2
    (omega (arith, c.max.ensures))
