-- Whether bytes wait at some of the doors so far.
use Rattle.std.proofs.Common.{◌≡◌}
use Rattle.rfb_session.specs.relay.Relay.{some_wait}
use Rattle.rfb_session.proofs.relay.Relay.do_viewers_wait.Given as goal

abbrev pub invariant-loop-place : goal.invariant-loop-place
invariant-loop-place g l = l.wait ≡ some_wait l.place l.self.console
