-- The keys so far are down; those that are left have yet to go up, the last one first.
use Rattle.std.proofs.Common.{◌≡◌, ◌≤◌, ◌+◌, ◌++◌, length, map, take}
use Rattle.std.specs.Prelude.{reverse}
use Rattle.rfb_session.specs.drive.Keys.{down, pressing, up}
use Rattle.rfb_session.proofs.drive.keys.pressing.Given as goal

abbrev pub invariant-loop-key : goal.invariant-loop-key
invariant-loop-key l = l.events.items ≡ map down (take l.key-index l.keys)

abbrev pub invariant-loop-left : goal.invariant-loop-left
invariant-loop-left l = record {
  within : l.left ≤ length l.keys;
  count : length l.events.items + l.left ≡ length l.keys + length l.keys;
  rest : l.events.items ++ map up (reverse (take l.left l.keys)) ≡ pressing l.keys;
}

abbrev pub decreases-loop-left : goal.decreases-loop-left
decreases-loop-left l = l.left
