use Rattle.std.proofs.Common.{◌+◌, List, arith, sym, subst, rules}
use Rattle.std.proofs.lemmas.Bool.{false≢true}
use Rattle.rfb_session.specs.declared.doors.place.Place.{Place}
use Rattle.rfb_session.proofs.DoorLifeLemmas.{ClosesUpTo, closes_none, closes_over, closes_not, closes_all}
use Rattle.rfb_session.proofs.doors.lives.close.Goals.{then-is_over+in-Held-1, then-is_over+in-Empty-1, else-is_over}
use Rattle.rfb_session.proofs.doors.lives.close.Goals as goal

pub loop-door-init : goal.loop-door-init
loop-door-init g c = closes_none g.C.Core.closed g.C.Core.waiting c.args.core.now c.args.doors.now

pub loop-door-preserved : goal.loop-door-preserved
loop-door-preserved g c =
    let l = c.loop-door in
    let closed = g.C.Core.closed in
    let waiting = g.C.Core.waiting in
    let core = c.args.core.now in
    let up_to = λ (d : List (Place g.row.D.Denot)).
    ClosesUpTo closed waiting core c.args.doors.now d (l.door + 1) in
    elim c.if-is_over.branch [
      | then-is_over+in-Held-1 w ↦ subst up_to (sym w.doors-is)
          (closes_over closed waiting core c.args.doors.now l.doors l.door c.loop-door-test.true
          l.invariant (search rules))
      | then-is_over+in-Empty-1 w ↦ subst up_to (sym w.doors-is)
          (closes_over closed waiting core c.args.doors.now l.doors l.door c.loop-door-test.true
          l.invariant (search rules))
      | else-is_over w ↦ subst up_to (sym w.doors-is)
          (closes_not closed waiting core c.args.doors.now l.doors l.door l.invariant
          (λ over. false≢true (w.if-is_over.ensures.1 over)))
    ]

pub returns : goal.returns
returns g c =
    closes_all g.C.Core.closed g.C.Core.waiting c.args.core.now c.args.doors.now c.loop-door.doors
    c.loop-door.door c.loop-door.invariant (omega arith)
