-- The viewers of the seats so far are counted.
use Rattle.std.proofs.Common.{◌≡◌, ◌≤◌}
use Rattle.rfb_session.specs.console.Desk.{seated_in}
use Rattle.rfb_session.proofs.console.desk.Desk.seated.Given as goal

abbrev pub invariant-loop-place : goal.invariant-loop-place
invariant-loop-place l = record {
  are : l.count ≡ seated_in l.self l.place;
  few : l.count ≤ l.place;
}
