-- This number of bytes is left to arrive; those before them have, and the other end has not
-- changed.
use Rattle.std.proofs.Common.{◌≡◌, ◌≤◌, ◌-◌, take, drop}
use Rattle.rfb.specs.Delivery.{ReachesViewer, server_end, viewer_end}
use Rattle.rfb.proofs.loopback.ends.Ends.deliver_to_viewer.Given as goal

abbrev pub invariant-loop-left : goal.invariant-loop-left
invariant-loop-left g l = record {
  some : l.left ≤ l.wanted;
  other : l.self.server ≡ l.fn.self.server;
  taken : l.self.to_viewer.items ≡ drop (l.wanted - l.left) l.fn.self.to_viewer.items;
  reached : ReachesViewer (take (l.wanted - l.left) l.fn.self.to_viewer.items)
      (g.C.Write.contents (server_end l.initial.link)) (g.C.Write.contents (server_end l.link))
      (g.C.Read.remaining (viewer_end l.initial.link)) (g.C.Read.remaining (viewer_end l.link))
      l.fn.self.viewer l.fn.self.to_server.items l.self.to_server.items l.self.viewer;
}

abbrev pub decreases-loop-left : goal.decreases-loop-left
decreases-loop-left g l = l.left
