-- The bytes of the colours so far are their components.
use Rattle.std.proofs.Common.{◌≡◌, ◌≤◌, ◌-◌, ◌*◌, length, take}
use Rattle.rfb_session.specs.Pixmap.{components}
use Rattle.rfb_session.proofs.engine.pixmap.put_components.Given as goal

abbrev pub decreases-loop-start : goal.decreases-loop-start
decreases-loop-start l = length l.colours - l.start

abbrev pub invariant-loop-start : goal.invariant-loop-start
invariant-loop-start l = record {
  within : l.start ≤ length l.colours;
  len : length l.bytes ≡ 6 * length l.colours;
  put : take (6 * l.start) l.bytes ≡ components (take l.start l.colours);
}

abbrev pub invariant-loop-place : goal.invariant-loop-place
invariant-loop-place l = record {
  len : length l.bytes ≡ 6 * length l.colours;
  put : take (6 * l.place) l.bytes ≡ components (take l.place l.colours);
}
