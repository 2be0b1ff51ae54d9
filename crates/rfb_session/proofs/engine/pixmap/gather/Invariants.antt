-- What was written and what waits are what waited and the components so far; no write has failed.
use Rattle.std.proofs.Common.{◌≡◌, ◌≤◌, ◌-◌, ◌++◌, length, take}
use Rattle.rfb_session.specs.Devices.{AppendsUpTo}
use Rattle.rfb_session.specs.Pixmap.{components}
use Rattle.rfb_session.proofs.engine.pixmap.gather.Given as goal

abbrev pub decreases-loop-start : goal.decreases-loop-start
decreases-loop-start g l = length l.colours - l.start

abbrev pub invariant-loop-start : goal.invariant-loop-start
invariant-loop-start g l = record {
  within : l.start ≤ length l.colours;
  gathered : AppendsUpTo (g.W.Sink.written l.initial.sink) (g.W.Sink.written l.sink)
      (l.initial.waiting ++ components (take l.start l.colours)) l.waiting;
  none_failed : g.W.Sink.failed l.sink ≡ g.W.Sink.failed l.initial.sink;
  same_reference : g.W.Sink.reference l.sink ≡ g.W.Sink.reference l.initial.sink;
}
