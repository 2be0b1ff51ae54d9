use Rattle.std.proofs.Common.{arith}
use Rattle.rfb_session.proofs.drive.driver.Driver.hear_at.Goals as goal

pub returns-then-door-eq-SERVER-clause-hears : goal.returns-then-door-eq-SERVER-clause-hears
returns-then-door-eq-SERVER-clause-hears g c = record {
  server = λ is. c.hear_server.ensures.hears;
  orders = λ is. absurd (omega (arith, c.if-door-eq-SERVER.true, is));
  other = λ far. absurd (omega (arith, c.if-door-eq-SERVER.true, far));
}
