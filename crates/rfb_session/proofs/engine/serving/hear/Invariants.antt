-- The first of the bytes were fed, and all answers to them were written.
use Rattle.std.proofs.Common.{◌≡◌, Some, length}
use Rattle.rfb_server.specs.declared.fault.ServerFault.{ServerFault}
use Rattle.rfb_server.specs.Model.{fault_of}
use Rattle.rfb_session.specs.Wire.{by_steps}
use Rattle.rfb_session.proofs.ServeLemmas.{HeardBy}
use Rattle.rfb_session.proofs.engine.serving.hear.Given as goal

abbrev pub invariant-loop-rest : goal.invariant-loop-rest
invariant-loop-rest g l = record {
  heard : HeardBy (by_steps g.W.Wire.steps) l.fn.server l.bytes l.rest l.initial.wire l.wire
      l.server;
  none_failed : (g.W.Wire.known l.wire).failed_writes
      ≡ (g.W.Wire.known l.initial.wire).failed_writes;
  failed : (f : ServerFault) → fault_of l.fn.server ≡ Some f →
      (l.rest ≡ l.bytes) × (l.server ≡ l.fn.server);
}

abbrev pub decreases-loop-rest : goal.decreases-loop-rest
decreases-loop-rest g l = length l.rest
