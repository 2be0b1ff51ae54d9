use Rattle.std.proofs.Common.{arith}
use Rattle.rfb_server.proofs.session.Session.next_within.Goals as goal

pub returns-then-from-room : goal.returns-then-from-room
returns-then-from-room c = λ x y a b d e. c.requires.after x y a b (omega (arith, c.if-from-room.true)) e

pub returns-then-from-room-2 : goal.returns-then-from-room-2
returns-then-from-room-2 c = record {
  after = omega arith;
  is_cell = omega (arith, c.requires.some (omega (arith, c.if-from-room.false)), c.requires.within);
  none = λ x y a b d e. c.requires.before x y a b (omega arith) e;
}
