-- What was found in the rows so far.
use Rattle.std.proofs.Common.{◌≡◌, ◌≤◌, ◌*◌, length, take}
use Rattle.std.specs.Prelude.{IfSome}
use Rattle.rfb_session.specs.drive.Compare.{rows_of}
use Rattle.rfb_session.proofs.CompareLemmas.{Found}
use Rattle.rfb_session.proofs.drive.comparing.compare.Given as goal

abbrev pub invariant-loop-row : goal.invariant-loop-row
invariant-loop-row l = record {
  width : l.width ≡ l.expected.width;
  rows : length (rows_of l.screen l.x l.y l.expected.width l.row) ≡ l.row * l.expected.width;
  found : Found l.within (rows_of l.screen l.x l.y l.expected.width l.row)
      (take (l.row * l.expected.width) l.expected.places.items) l.expected.width l.found;
  few : IfSome l.found (λ above. above.count ≤ 65535 * l.row);
}
