use Rattle.std.proofs.Common.{◌∙◌, ap, false, map}
use Rattle.std.proofs.lemmas.List.{take_all}
use Rattle.clap.specs.Words.{rule_of}
use Rattle.clap.specs.declared.builder.arg.Arg.{Arg}
use Rattle.rfb.specs.declared.options.usage.Word.{Word}
use Rattle.rfb.specs.command.Usage.{rule_for}
use Rattle.rfb.proofs.UsageLemmas.{word_added}
use Rattle.rfb.proofs.options.usage.args_of.Goals as goal

pub loop-word-init : goal.loop-word-init
loop-word-init c = record {
  rules = ap (map rule_of) c.in_ok-args.ensures.items;
  local = ap (map (λ (a : Arg). a.global)) c.in_ok-args.ensures.items;
}

pub loop-word-preserved : goal.loop-word-preserved
loop-word-preserved c =
    let both = word_added c.loop-word.args.items c.push.new.self.items _ c.args.words.now c.loop-word.word-index
    _ c.loop-word-test.true c.in_ok-push.ensures.items c.arg_of.ensures.rule c.arg_of.ensures.local
    c.loop-word.invariant.rules c.loop-word.invariant.local in
    record { rules = both.0; local = both.1 }

pub returns : goal.returns
returns c =
    let all = take_all c.loop-word.word-index c.args.words.now c.loop-word-test.false in
    record {
      rules = c.loop-word.invariant.rules ∙ ap (map rule_for) all;
      local = c.loop-word.invariant.local ∙ ap (map (λ (w : Word). false)) all;
    }
