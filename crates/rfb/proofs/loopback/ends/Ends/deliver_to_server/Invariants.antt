-- This number of bytes is left to arrive; those before them have, and the other end has not
-- changed.
use Rattle.std.proofs.Common.{◌≡◌, ◌≤◌, ◌-◌, take, drop}
use Rattle.rfb.specs.Delivery.{ReachesServer, server_end, viewer_end}
use Rattle.rfb.proofs.loopback.ends.Ends.deliver_to_server.Given as goal

abbrev pub invariant-loop-left : goal.invariant-loop-left
invariant-loop-left g l = record {
  some : l.left ≤ l.wanted;
  other : l.self.viewer ≡ l.fn.self.viewer;
  taken : l.self.to_server.items ≡ drop (l.wanted - l.left) l.fn.self.to_server.items;
  reached : ReachesServer (take (l.wanted - l.left) l.fn.self.to_server.items)
      (g.C.Write.contents (viewer_end l.initial.link)) (g.C.Write.contents (viewer_end l.link))
      (g.C.Read.remaining (server_end l.initial.link)) (g.C.Read.remaining (server_end l.link))
      l.fn.self.server l.fn.self.to_viewer.items l.self.to_viewer.items l.self.server;
}

abbrev pub decreases-loop-left : goal.decreases-loop-left
decreases-loop-left g l = l.left
