use Rattle.std.proofs.Common.{◌≤◌, ◌*◌, ◌-◌}
use Rattle.std.specs.Int.{div_ceil}
use Rattle.rfb_server.specs.session.Twins.{AgreeBelow}
use Rattle.rfb_server.proofs.session.Session.agrees.Given as goal

-- the cells so far agree
abbrev pub invariant-loop-index : goal.invariant-loop-index
invariant-loop-index l = record {
  same : AgreeBelow l.self l.other l.next;
  within : l.next ≤ div_ceil l.self.known.width 64 * div_ceil l.self.known.height 64;
  few : l.next ≤ 4096;
}

abbrev pub decreases-loop-index : goal.decreases-loop-index
decreases-loop-index l = div_ceil l.self.known.width 64 * div_ceil l.self.known.height 64 - l.next
