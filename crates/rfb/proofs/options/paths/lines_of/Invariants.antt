-- The text so far has the words so far.
use Rattle.std.proofs.Common.{◌≡◌, map, take}
use Rattle.rfb.specs.command.Values.{as_lines}
use Rattle.rfb.proofs.options.paths.lines_of.Given as goal

abbrev pub invariant-loop-word : goal.invariant-loop-word
invariant-loop-word l = record {
  text : l.text.items ≡ as_lines (map (λ word. word.now) (take l.word-index l.words));
}
