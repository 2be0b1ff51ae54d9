use Rattle.std.proofs.Common.{◌≡◌, ◌+◌, ◌-◌, ◌≤◌, length}
use Rattle.rfb_pixel.specs.Format.{rgb888}
use Rattle.rfb_pixel.specs.bits.Lanes.{ArePacked}
use Rattle.rfb_pixel.proofs.format.rows.pack_rgb888.Given as goal

abbrev pub invariant-loop-at : goal.invariant-loop-at
invariant-loop-at l = record {
  last : l.last + 16 ≡ length l.colours;
  within : l.at ≤ length l.colours;
  len : length l.pixels ≡ length l.colours;
  packed : ArePacked rgb888 l.at l.colours l.pixels;
}

abbrev pub decreases-loop-at : goal.decreases-loop-at
decreases-loop-at l = l.last - l.at
