-- What was read was fed, kept and answered, in order; updates are looked for, and nothing has failed.
use Rattle.std.proofs.Common.{◌≡◌, ◌+◌, ℕ, Some, [], length}
use Rattle.std.specs.Io.KnownBytes.{Consumes}
use Rattle.rfb_viewer.specs.declared.fault.ViewerFault.{ViewerFault}
use Rattle.rfb_viewer.specs.Model.{fault_of}
use Rattle.rfb_session.specs.ViewOrder.{LooksOver}
use Rattle.rfb_session.proofs.ViewedLemmas.{ViewedSoFar}
use Rattle.rfb_session.proofs.ServeOrderLemmas.{NoneFailed}
use Rattle.rfb_session.proofs.WatcherLemmas.{HeardOver}
use Rattle.rfb_session.proofs.engine.viewing.view_watched.Given as goal

abbrev pub invariant-loop-turn : goal.invariant-loop-turn
invariant-loop-turn g l =
    let old = g.W.Wire.known l.initial.wire in
    let now = g.W.Wire.known l.wire in
    record {
      order : LooksOver g.W.Wire.steps l.initial.wire (g.K.Sink.written l.initial.kept) l.fn.viewer
          l.updates l._turn l.left l.wire (g.K.Sink.written l.kept) l.viewer;
      viewed : ViewedSoFar old.unread now.unread old.written now.written
          (g.K.Sink.written l.initial.kept) (g.K.Sink.written l.kept) l.fn.viewer l._turn
          l.updates l.left l.viewer;
      none_failed : NoneFailed old now;
      none_unkept : g.K.Sink.failed l.kept ≡ g.K.Sink.failed l.initial.kept;
      same_reference : g.K.Sink.reference l.kept ≡ g.K.Sink.reference l.initial.kept;
      size : length l.part ≡ 32768;
      failed : (f : ViewerFault) → fault_of l.fn.viewer ≡ Some f → (l._turn ≡ 0)
          × (l.viewer ≡ l.fn.viewer) × Consumes old.unread now.unread [];
      heard : HeardOver g.A.Watcher.steps (λ (n : ℕ). l.updates ≡ n + l.left) old.unread now.unread
          l.fn.viewer l.initial.watcher l.viewer l.watcher;
    }
