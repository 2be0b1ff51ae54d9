use Rattle.std.proofs.Common.{◌∙◌, codes, map, sym}
use Rattle.clap.specs.Matches.{found_of}
use Rattle.clap.proofs.WalkLemmas.{raw_values-rows}
use Rattle.rfb.proofs.options.paths.input_in.Goals as goal

pub returns-in_ok-lines_of-in-Some-get_strs : goal.returns-in_ok-lines_of-in-Some-get_strs
returns-in_ok-lines_of-in-Some-get_strs c = (
  c.word_in.ensures.absent c.in_default.is,
  (
    map (λ word. word.now) c.in-Some-get_strs.words.now,
    sym (c.in-Some-get_strs.ensures ∙ raw_values-rows (found_of c.args.given.now) (codes "line")),
    c.in_ok-lines_of-in-Some-get_strs.ensures,
  ),
)

pub returns-in-None : goal.returns-in-None
returns-in-None c = (
  c.word_in.ensures.absent c.in_default.is,
  sym (c.in-None.ensures ∙ raw_values-rows (found_of c.args.given.now) (codes "line")),
)
