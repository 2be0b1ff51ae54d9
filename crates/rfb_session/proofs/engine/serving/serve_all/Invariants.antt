-- What was read was fed and answered by turns, in order; no update is due, and nothing has failed.
use Rattle.std.proofs.Common.{◌≡◌, Some, []}
use Rattle.std.specs.Io.KnownBytes.{Consumes}
use Rattle.rfb_server.specs.declared.fault.ServerFault.{ServerFault}
use Rattle.rfb_server.specs.Model.{fault_of}
use Rattle.rfb_session.specs.Turns.{TakesTurns}
use Rattle.rfb_session.proofs.ServingLemmas.{ServedSoFar}
use Rattle.rfb_session.proofs.ServeOrderLemmas.{InOrderSoFar, NoneFailed}
use Rattle.rfb_session.proofs.engine.serving.serve_all.Given as goal

abbrev pub invariant-loop-turn : goal.invariant-loop-turn
invariant-loop-turn g l =
    let old = g.W.Wire.known l.initial.wire in
    let now = g.W.Wire.known l.wire in
    record {
      order : InOrderSoFar g.W.Wire.steps g.S.Scene.shows l.initial.wire l.fn.server l.fn.scene
          l._turn l.updates l.wire l.server l.scene;
      served : ServedSoFar old.unread now.unread old.written now.written l.fn.server l._turn
          l.updates l.server;
      turns : TakesTurns g.S.Scene.shows old.unread now.unread old.written now.written l.fn.server
          l.fn.scene l.updates l.server l.scene;
      none_failed : NoneFailed old now;
      failed : (f : ServerFault) → fault_of l.fn.server ≡ Some f → (l._turn ≡ 0) × (l.updates ≡ 0)
          × (l.server ≡ l.fn.server) × Consumes old.unread now.unread [];
    }
