use Rattle.std.proofs.Common.{◌≡◌, ◌-◌, ◌≤◌, length, take}
use Rattle.rfb_pixel.specs.Rows.{equal_places}
use Rattle.rfb_pixel.proofs.rows.count_equal.Given as goal

abbrev pub invariant-loop-at : goal.invariant-loop-at
invariant-loop-at l = record {
  within : l.at ≤ length l.a;
  counted : l.count ≡ equal_places (take l.at l.a) (take l.at l.b);
  few : l.count ≤ l.at;
}

abbrev pub decreases-loop-at : goal.decreases-loop-at
decreases-loop-at l = length l.a - l.at

abbrev pub invariant-loop-place : goal.invariant-loop-place
invariant-loop-place l = record {
  counted : l.count ≡ equal_places (take l.place l.a) (take l.place l.b);
  few : l.count ≤ l.place;
}
