-- The arguments so far are those of the words so far.
use Rattle.std.proofs.Common.{◌≡◌, false, map, take}
use Rattle.clap.specs.Words.{rule_of}
use Rattle.rfb.specs.command.Usage.{rule_for}
use Rattle.rfb.proofs.options.usage.args_of.Given as goal

abbrev pub invariant-loop-word : goal.invariant-loop-word
invariant-loop-word l = record {
  rules : map rule_of l.args.items ≡ map rule_for (take l.word-index l.words);
  local : map (λ arg. arg.global) l.args.items ≡ map (λ _. false) (take l.word-index l.words);
}
