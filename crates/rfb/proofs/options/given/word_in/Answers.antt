use Rattle.std.proofs.Common.{◌∙◌}
use Rattle.clap.specs.Matches.{found_of}
use Rattle.clap.proofs.WalkLemmas.{first_value-rows}
use Rattle.rfb.proofs.OptionLemmas.{word_absent, word_given}
use Rattle.rfb.proofs.options.given.word_in.Goals as goal

pub returns-clause-absent : goal.returns-clause-absent
returns-clause-absent c none =
    word_absent c.get_str.result _
    (c.get_str.ensures ∙ first_value-rows (found_of c.args.given.now) c.args.name.now) none

pub returns-clause-given : goal.returns-clause-given
returns-clause-given c =
    word_given c.get_str.result _ (c.get_str.ensures ∙ first_value-rows (found_of c.args.given.now) c.args.name.now)
