-- The first of the bytes were fed and kept, and all answers to them were written.
use Rattle.std.proofs.Common.{◌≡◌, ◌+◌, ℕ, length, Some}
use Rattle.rfb_viewer.specs.declared.fault.ViewerFault.{ViewerFault}
use Rattle.rfb_viewer.specs.Model.{fault_of}
use Rattle.rfb_session.specs.Wire.{by_steps}
use Rattle.rfb_session.proofs.LookLemmas.{LooksSoFar}
use Rattle.rfb_session.proofs.WatcherLemmas.{HeardOf}
use Rattle.rfb_session.proofs.engine.viewing.look.Given as goal

abbrev pub invariant-loop-left : goal.invariant-loop-left
invariant-loop-left g l = record {
  looks : LooksSoFar (by_steps g.W.Wire.steps) l.fn.viewer l.bytes l.rest l.before l.left
      l.initial.wire l.wire (g.K.Sink.written l.initial.kept) (g.K.Sink.written l.kept)
      l.viewer;
  none_unwritten : (g.W.Wire.known l.wire).failed_writes
      ≡ (g.W.Wire.known l.initial.wire).failed_writes;
  none_unkept : g.K.Sink.failed l.kept ≡ g.K.Sink.failed l.initial.kept;
  same_reference : g.K.Sink.reference l.kept ≡ g.K.Sink.reference l.initial.kept;
  failed : (f : ViewerFault) → fault_of l.fn.viewer ≡ Some f →
      (l.rest ≡ l.bytes) × (l.left ≡ l.before) × (l.viewer ≡ l.fn.viewer);
  heard : HeardOf g.A.Watcher.steps (λ (n : ℕ). l.before ≡ n + l.left) l.fn.viewer l.initial.watcher
      l.bytes l.rest l.viewer l.watcher;
}

abbrev pub decreases-loop-left : goal.decreases-loop-left
decreases-loop-left g l = length l.rest
