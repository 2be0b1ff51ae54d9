-- What was read was fed, not enough updates ended, and no read has failed.
use Rattle.std.proofs.Common.{◌≡◌, ℕ, length, Some, []}
use Rattle.std.specs.Io.KnownBytes.{Consumes}
use Rattle.rfb_viewer.specs.declared.fault.ViewerFault.{ViewerFault}
use Rattle.rfb_viewer.specs.Model.{fault_of}
use Rattle.rfb_session.specs.Playback.{most}
use Rattle.rfb_session.specs.FirstUpdates.{AreFewer}
use Rattle.rfb_session.proofs.PlayLemmas.{Reading}
use Rattle.rfb_session.proofs.WatcherLemmas.{HeardOver}
use Rattle.rfb_session.proofs.engine.playing.feeding.feed_all.Given as goal

abbrev pub invariant-loop-turn : goal.invariant-loop-turn
invariant-loop-turn g l = record {
  reading : Reading (g.R.Source.unread l.initial.source) (g.R.Source.unread l.source) l.fn.viewer
      l._turn l.updates l.viewer;
  few : AreFewer l.enough l.updates;
  none_failed : g.R.Source.failed l.source ≡ g.R.Source.failed l.initial.source;
  size : length l.part ≡ 32768;
  failed : (f : ViewerFault) → fault_of l.fn.viewer ≡ Some f → (l._turn ≡ 0) × (l.updates ≡ 0)
      × (l.viewer ≡ l.fn.viewer)
      × Consumes (g.R.Source.unread l.initial.source) (g.R.Source.unread l.source) [];
  heard : HeardOver g.A.Watcher.steps (λ (n : ℕ). l.updates ≡ most n)
      (g.R.Source.unread l.initial.source) (g.R.Source.unread l.source) l.fn.viewer
      l.initial.watcher l.viewer l.watcher;
}
