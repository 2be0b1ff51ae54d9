-- The lines so far are empty, or a script.
use Rattle.std.proofs.Common.{◌≡◌, length}
use Rattle.rfb.proofs.LinesLemmas.{ReadSoFar}
use Rattle.rfb_session.specs.language.Words.{texts}
use Rattle.rfb.proofs.script.read_script.Given as goal

abbrev pub invariant-loop-line : goal.invariant-loop-line
invariant-loop-line l = record {
  count : l.number ≡ length l.yielded;
  so_far : ReadSoFar (texts l.yielded) l.screen l.wants l.steps.items;
}
