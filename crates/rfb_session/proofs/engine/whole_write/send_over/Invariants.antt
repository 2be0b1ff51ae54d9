-- What was written of the bytes, what is left of them, and that no write has failed.
use Rattle.std.proofs.Common.{◌≡◌, length}
use Rattle.rfb_session.proofs.WireLemmas.{SendsUpTo}
use Rattle.rfb_session.proofs.engine.whole_write.send_over.Given as goal

abbrev pub invariant-loop-rest : goal.invariant-loop-rest
invariant-loop-rest g l = record {
  sent : SendsUpTo g.W.Wire.steps l.initial.wire l.wire l.bytes l.rest;
  none_failed : (g.W.Wire.known l.wire).failed_writes ≡ (g.W.Wire.known l.initial.wire).failed_writes;
}

abbrev pub decreases-loop-rest : goal.decreases-loop-rest
decreases-loop-rest g l = length l.rest
