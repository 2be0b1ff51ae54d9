use Rattle.std.proofs.Common.{◌∙◌, sym}
use Rattle.clap.specs.Matches.{found_of}
use Rattle.clap.proofs.WalkLemmas.{raw_values-rows}
use Rattle.rfb.proofs.OptionLemmas.{are_words_absent, are_words_there}
use Rattle.rfb.proofs.options.given.are_there.Goals as goal

pub returns-clause-there : goal.returns-clause-there
returns-clause-there c found =
    are_words_there c.get_strs.result _
    (c.get_strs.ensures ∙ raw_values-rows (found_of c.args.given.now) c.args.name.now)
    (sym c.is_some.ensures ∙ found)

pub returns-clause-absent : goal.returns-clause-absent
returns-clause-absent c missing =
    are_words_absent c.get_strs.result _
    (c.get_strs.ensures ∙ raw_values-rows (found_of c.args.given.now) c.args.name.now)
    (sym c.is_some.ensures ∙ missing)
