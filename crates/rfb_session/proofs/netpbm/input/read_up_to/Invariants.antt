-- What came is at the front of the buffer.
use Rattle.std.proofs.Common.{◌≡◌, ◌-◌, ◌≤◌, length, take}
use Rattle.std.specs.Io.KnownBytes.{Consumes}
use Rattle.rfb_session.proofs.netpbm.input.read_up_to.Given as goal

abbrev pub invariant-loop-count : goal.invariant-loop-count
invariant-loop-count g l = record {
  inside : l.count ≤ length l.buffer;
  size : length l.buffer ≡ length l.initial.buffer;
  came : Consumes (g.R.Read.remaining l.initial.input) (g.R.Read.remaining l.input) (take l.count l.buffer);
}

abbrev pub decreases-loop-count : goal.decreases-loop-count
decreases-loop-count g l = length l.buffer - l.count
