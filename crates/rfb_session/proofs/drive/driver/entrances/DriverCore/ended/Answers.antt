use Rattle.std.proofs.Common.{refl, arith}
use Rattle.rfb_session.proofs.drive.driver.entrances.DriverCore.ended.Goals as goal

pub returns-then-door-eq-SERVER : goal.returns-then-door-eq-SERVER
returns-then-door-eq-SERVER g c = record {
  server = λ is. (c.lose_server.new.self, c.lose_server.ensures, refl);
  orders = λ is. absurd (omega (arith, c.if-door-eq-SERVER.true, is));
  other = λ far. absurd (omega (arith, c.if-door-eq-SERVER.true, far));
}
