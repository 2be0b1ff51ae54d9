-- There is no space so far.
use Rattle.std.proofs.Common.{◌≡◌, ◌++◌, drop, take}
use Rattle.rfb_session.specs.drive.DriveLines.{after_word, first_word}
use Rattle.rfb_session.proofs.drive.line.cut.Given as goal

abbrev pub invariant-loop-at : goal.invariant-loop-at
invariant-loop-at l = record {
  word : first_word l.line ≡ take l.at l.line ++ first_word (drop l.at l.line);
  rest : after_word l.line ≡ after_word (drop l.at l.line);
}
