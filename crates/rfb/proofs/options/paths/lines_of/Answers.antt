use Rattle.std.proofs.Common.{◌∙◌, ◌++◌, ap, map}
use Rattle.std.proofs.lemmas.List.{take_all}
use Rattle.rfb.specs.command.Values.{as_lines}
use Rattle.rfb.proofs.OptionLemmas.{line_more}
use Rattle.rfb.proofs.options.paths.lines_of.Goals as goal

pub loop-word-preserved : goal.loop-word-preserved
loop-word-preserved c = record {
  text = line_more c.loop-word.text.items _ _ c.args.words.now c.loop-word.word-index _ c.loop-word-test.true
      c.loop-word.invariant.text
      (c.in_ok-extend_from_slice.ensures.items
      ∙ ap (λ bytes. c.loop-word.text.items ++ bytes) c.as_bytes.ensures.value)
      c.in_ok-push.ensures.items;
}

pub returns : goal.returns
returns c =
    c.loop-word.invariant.text
    ∙ ap (λ words. as_lines (map (λ word. word.now) words))
    (take_all c.loop-word.word-index c.args.words.now c.loop-word-test.false)
