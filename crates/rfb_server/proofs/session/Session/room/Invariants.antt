use Rattle.std.proofs.Common.{◌<◌, ◌≤◌, ◌*◌, ◌-◌}
use Rattle.std.specs.Int.{div_ceil}
use Rattle.rfb_server.specs.Room.{cells_room}
use Rattle.rfb_server.specs.update.Sends.{IsEnough, NoneMayNeed}
use Rattle.rfb_server.proofs.session.Session.room.Given as goal

-- the room is enough for the cells so far, and none before the first needs any
abbrev pub invariant-loop-index : goal.invariant-loop-index
invariant-loop-index l = record {
  enough : IsEnough l.self (div_ceil l.self.known.width 64) l.end l.bytes;
  order : l.first < l.end;
  before : NoneMayNeed l.self 0 l.first;
  within : l.end ≤ div_ceil l.self.known.width 64 * div_ceil l.self.known.height 64;
  few : l.end ≤ 4096;
  bound : l.bytes ≤ l.end * 16396;
  most : l.bytes ≤ cells_room l.self.known.width l.self.known.height l.self.format l.self.area l.end;
}

abbrev pub decreases-loop-index : goal.decreases-loop-index
decreases-loop-index l = div_ceil l.self.known.width 64 * div_ceil l.self.known.height 64 - l.end
