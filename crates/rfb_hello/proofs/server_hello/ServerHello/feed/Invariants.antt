use Rattle.std.proofs.Common.{◌≡◌, ◌+◌, ◌-◌, ◌≤◌, length, take, true, None}
use Rattle.rfb_wire.specs.stream.End.{FedBy}
use Rattle.rfb_hello.specs.ServerEnd.{ServerSetup, server_end}
use Rattle.rfb_hello.specs.ServerModel.{StandsFor, fault_of, is_open, setup_of, left_of}
use Rattle.rfb_hello.proofs.server_hello.ServerHello.feed.Given as goal

abbrev pub invariant-loop-used : goal.invariant-loop-used
invariant-loop-used l = record {
  within : l.used ≤ length l.bytes;
  began : fault_of l.fn.self ≡ None;
  going : fault_of l.self ≡ None;
  stays_open : is_open l.fn.self ≡ true → is_open l.self ≡ true;
  setup : setup_of l.self ≡ setup_of l.fn.self;
  left : left_of l.fn.self ≤ l.used + left_of l.self;
  fed : (setup : ServerSetup) → FedBy (server_end setup) (StandsFor setup) l.fn.self (take l.used l.bytes) None l.self;
}

abbrev pub decreases-loop-used : goal.decreases-loop-used
decreases-loop-used l = length l.bytes - l.used
