-- The keys of the words so far go down and up.
use Rattle.std.proofs.Common.{◌≤◌, ◌*◌, length, take}
use Rattle.rfb_session.specs.drive.Arguments.{GoInTurn}
use Rattle.rfb_session.specs.language.Words.{texts}
use Rattle.rfb_session.proofs.drive.arguments.read_presses.Given as goal

abbrev pub invariant-loop-word : goal.invariant-loop-word
invariant-loop-word l = record {
  turn : GoInTurn (texts (take l.word-index l.words)) l.events.items;
  few : length l.events.items ≤ 16 * l.word-index;
}
