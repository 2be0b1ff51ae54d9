-- What was written and what waits are the header and the rows so far; no write has failed.
use Rattle.std.proofs.Common.{◌≡◌}
use Rattle.rfb_session.specs.Devices.{AppendsUpTo}
use Rattle.rfb_session.proofs.PixmapLemmas.{text_up_to}
use Rattle.rfb_session.proofs.engine.pixmap.ppm.Given as goal

abbrev pub invariant-loop-y : goal.invariant-loop-y
invariant-loop-y g l = record {
  width_is : l.width ≡ l.picture.width;
  height_is : l.height ≡ l.picture.height;
  gathered : AppendsUpTo (g.W.Sink.written l.initial.sink) (g.W.Sink.written l.sink)
      (text_up_to l.picture l.y) l.waiting;
  none_failed : g.W.Sink.failed l.sink ≡ g.W.Sink.failed l.initial.sink;
  same_reference : g.W.Sink.reference l.sink ≡ g.W.Sink.reference l.initial.sink;
}
