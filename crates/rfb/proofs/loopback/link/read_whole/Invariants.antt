-- The first bytes are those that came.
use Rattle.std.proofs.Common.{◌≡◌, ◌≤◌, ◌-◌, length, take}
use Rattle.std.specs.Io.KnownBytes.{Consumes}
use Rattle.rfb.proofs.loopback.link.read_whole.Given as goal

abbrev pub invariant-loop-done : goal.invariant-loop-done
invariant-loop-done g l = record {
  size : length l.bytes ≡ length l.initial.bytes;
  within : l.done ≤ length l.bytes;
  came : Consumes (g.C.Read.remaining l.initial.from) (g.C.Read.remaining l.from) (take l.done l.bytes);
}

abbrev pub decreases-loop-done : goal.decreases-loop-done
decreases-loop-done g l = length l.bytes - l.done
