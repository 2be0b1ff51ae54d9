use Rattle.std.proofs.Common.{◌≡◌, ◌-◌, ◌≤◌, length, take, None}
use Rattle.rfb_server.specs.Progress.{fault_in}
use Rattle.rfb_server.specs.session.Sessions.{KeepsUp}
use Rattle.rfb_server.specs.session.Slice.{FeedsAs}
use Rattle.rfb_server.proofs.session.Session.take_each.Given as goal

abbrev pub invariant-loop-used : goal.invariant-loop-used
invariant-loop-used l = record {
  within : l.used ≤ length l.bytes;
  going : fault_in l.self.progress ≡ None;
  up : KeepsUp l.fn.self l.self;
  fed : FeedsAs l.fn.self (take l.used l.bytes) None l.self;
}

abbrev pub decreases-loop-used : goal.decreases-loop-used
decreases-loop-used l = length l.bytes - l.used
