use Rattle.std.proofs.Common.{◌≡◌, ◌+◌, ◌-◌, ◌≤◌, length}
use Rattle.rfb_picture.specs.layout.Runs.{RunCopied}
use Rattle.rfb_picture.proofs.picture.copying.shift_right.Given as goal

-- all but the first of the places have what their source had at first
abbrev pub invariant-loop-left : goal.invariant-loop-left
invariant-loop-left g l = record {
  within : l.left ≤ l.count;
  moved : RunCopied (l.from + l.left) (l.to + l.left) (l.count - l.left) l.fn.places l.places;
  len : length l.places ≡ length l.fn.places;
}

abbrev pub decreases-loop-left : goal.decreases-loop-left
decreases-loop-left g l = l.left
