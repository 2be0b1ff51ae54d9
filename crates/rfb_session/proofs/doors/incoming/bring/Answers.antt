use Rattle.std.proofs.Common.{◌≤◌, ℕ, List, length, drop, subst, sym, arith, length-drop}
use Rattle.rfb_session.proofs.DoorMoveLemmas.{BringsUpTo, none_brought, part_brought, rest_is}
use Rattle.rfb_session.proofs.doors.incoming.bring.Goals as goal

pub loop-rest-init : goal.loop-rest-init
loop-rest-init g c =
    none_brought g.C.Core.steps g.C.Core.space c.args.door c.args.core.now c.args.bytes.now c.requires

pub loop-rest-preserved : goal.loop-rest-preserved
loop-rest-preserved g c =
    let l = c.loop-rest in
    let used = c.received-used.result in
    let new = c.received-used.new.self in
    let room : length (drop used l.rest.now) ≤ g.C.Core.space new c.args.door =
    omega (arith, length-drop used l.rest.now, l.invariant.room, c.received-used.ensures.room) in
    subst (λ (r : List ℕ). BringsUpTo g.C.Core.steps g.C.Core.space c.args.door c.args.core.now new c.args.bytes.now r)
    (sym (rest_is l.rest.now used))
    (part_brought g.C.Core.steps g.C.Core.space c.args.door c.args.core.now l.core new c.args.bytes.now
    l.rest.now used l.invariant c.received-used.ensures.steps room)
