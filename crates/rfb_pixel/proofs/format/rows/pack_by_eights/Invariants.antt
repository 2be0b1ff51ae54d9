use Rattle.std.proofs.Common.{◌≡◌, ◌+◌, ◌-◌, ◌≤◌, length}
use Rattle.rfb_pixel.specs.bits.Lanes.{ArePacked, laned}
use Rattle.rfb_pixel.proofs.format.rows.pack_by_eights.Given as goal

abbrev pub invariant-loop-at : goal.invariant-loop-at
invariant-loop-at g l = record {
  last : l.last + 8 ≡ length l.colours;
  within : l.at ≤ length l.colours;
  len : length l.pixels ≡ length l.colours;
  packed : ArePacked (laned g.row.NUMBER) l.at l.colours l.pixels;
}

abbrev pub decreases-loop-at : goal.decreases-loop-at
decreases-loop-at g l = l.last - l.at
