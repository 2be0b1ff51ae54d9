use Rattle.rfb_session.specs.doors.Turns.{TurnsOnce}
use Rattle.rfb_session.proofs.DoorTurnLemmas.{turns_in_none, turns_in_then, turns_once, turns_out_none, turns_out_then}
use Rattle.rfb_session.proofs.doors.turns.turn.Goals as goal

pub loop-door-init : goal.loop-door-init
loop-door-init g c = turns_in_none

pub loop-door-preserved : goal.loop-door-preserved
loop-door-preserved g c = turns_in_then c.loop-door.invariant c.hear_at.ensures

pub loop-door-2-init : goal.loop-door-2-init
loop-door-2-init g c = turns_out_none

pub loop-door-2-preserved : goal.loop-door-2-preserved
loop-door-2-preserved g c = turns_out_then c.loop-door-2.invariant c.tell_at.ensures

pub returns : goal.returns
returns g c =
    let once : TurnsOnce g.C.Core.steps g.C.Core.due g.D.Device.unread g.D.Device.written
    g.D.Device.failed g.D.Device.stands c.turned-next.result c.args.core.now c.loop-door-2.core
    c.args.doors.now c.loop-door-2.doors = record {
      heard = c.loop-door.core;
      turned = c.turned-next.new.self;
      mid = c.loop-door.doors;
      now = c.now.result;
      hears = c.loop-door.invariant;
      turns = c.turned-next.ensures.steps;
      next_is = c.turned-next.ensures.due;
      tells = c.loop-door-2.invariant;
    } in
    record { turns = turns_once once; once = once }
