-- The first of the bytes were fed and their updates counted, and these are not enough.
use Rattle.std.proofs.Common.{◌+◌, ◌-◌, ◌^◌, ℕ, min, length, ◌≡◌, Some}
use Rattle.rfb_viewer.specs.declared.fault.ViewerFault.{ViewerFault}
use Rattle.rfb_viewer.specs.Model.{fault_of}
use Rattle.rfb_session.specs.FirstUpdates.{AreFewer}
use Rattle.rfb_session.proofs.PlayLemmas.{Watched}
use Rattle.rfb_session.proofs.WatcherLemmas.{HeardOf}
use Rattle.rfb_session.proofs.engine.playing.feeding.feed_read.Given as goal

abbrev pub invariant-loop-rest : goal.invariant-loop-rest
invariant-loop-rest g l = record {
  watched : Watched l.fn.viewer l.bytes l.before l.rest l.updates l.viewer;
  few : AreFewer l.enough l.updates;
  failed : (f : ViewerFault) → fault_of l.fn.viewer ≡ Some f →
      (l.rest ≡ l.bytes) × (l.viewer ≡ l.fn.viewer);
  heard : HeardOf g.A.Watcher.steps (λ (n : ℕ). l.updates ≡ min (l.before + n) (2 ^ 64 - 1))
      l.fn.viewer l.initial.watcher l.bytes l.rest l.viewer l.watcher;
}

abbrev pub decreases-loop-rest : goal.decreases-loop-rest
decreases-loop-rest g l = length l.rest
