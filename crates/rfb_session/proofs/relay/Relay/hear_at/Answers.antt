use Rattle.std.proofs.Common.{arith}
use Rattle.rfb_session.proofs.relay.Relay.hear_at.Goals as goal

pub returns-then-door-eq-SERVER-clause-hears : goal.returns-then-door-eq-SERVER-clause-hears
returns-then-door-eq-SERVER-clause-hears g c = record {
  server = λ is. c.hear_server.ensures.hears;
  seat = λ k within is. absurd (omega (arith, c.if-door-eq-SERVER.true, is));
  other = λ far. absurd (omega (arith, c.if-door-eq-SERVER.true, far));
}
