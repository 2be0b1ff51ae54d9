use Rattle.std.proofs.Common.{◌≡◌, ◌≤◌, take}
use Rattle.rfb_session.specs.drive.Near.{far_places}
use Rattle.rfb_session.proofs.drive.near.count_far.Given as goal

abbrev pub invariant-loop-place : goal.invariant-loop-place
invariant-loop-place l = record {
  counted : l.count ≡ far_places l.within (take l.place l.row) (take l.place l.expected);
  few : l.count ≤ l.place;
}
