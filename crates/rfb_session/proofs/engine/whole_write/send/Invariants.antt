-- What was written of the bytes, what is left of them, and that no write has failed.
use Rattle.std.proofs.Common.{◌≡◌, length}
use Rattle.rfb_session.specs.Devices.{AppendsUpTo}
use Rattle.rfb_session.proofs.engine.whole_write.send.Given as goal

abbrev pub invariant-loop-rest : goal.invariant-loop-rest
invariant-loop-rest g l = record {
  written : AppendsUpTo (g.W.Sink.written l.initial.sink) (g.W.Sink.written l.sink) l.bytes l.rest;
  none_failed : g.W.Sink.failed l.sink ≡ g.W.Sink.failed l.initial.sink;
  same_reference : g.W.Sink.reference l.sink ≡ g.W.Sink.reference l.initial.sink;
}

abbrev pub decreases-loop-rest : goal.decreases-loop-rest
decreases-loop-rest g l = length l.rest
