use Rattle.std.proofs.Common.{refl, arith}
use Rattle.rfb_session.proofs.drive.driver.entrances.DriverCore.failed.Goals as goal

pub returns-then-door-eq-SERVER : goal.returns-then-door-eq-SERVER
returns-then-door-eq-SERVER g c = record {
  server = λ is. (c.lose_server.new.self, c.lose_server.ensures, refl);
  orders = λ is. absurd (omega (arith, c.if-door-eq-SERVER.true, is));
  lines = λ is. absurd (omega (arith, c.if-door-eq-SERVER.true, is));
  notes = λ is. absurd (omega (arith, c.if-door-eq-SERVER.true, is));
  other = λ server orders lines notes. absurd (server c.if-door-eq-SERVER.true);
}

pub returns-then-door-eq-ORDERS : goal.returns-then-door-eq-ORDERS
returns-then-door-eq-ORDERS g c = record {
  server = λ is. absurd (omega (arith, c.if-door-eq-ORDERS.true, is));
  orders = λ is. (c.end.new.self, c.end.ensures, refl);
  lines = λ is. absurd (omega (arith, c.if-door-eq-ORDERS.true, is));
  notes = λ is. absurd (omega (arith, c.if-door-eq-ORDERS.true, is));
  other = λ server orders lines notes. absurd (orders c.if-door-eq-ORDERS.true);
}
