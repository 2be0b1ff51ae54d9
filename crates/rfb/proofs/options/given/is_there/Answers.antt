use Rattle.std.proofs.Common.{◌∙◌, sym}
use Rattle.rfb.proofs.OptionLemmas.{is_word_absent, is_word_there}
use Rattle.rfb.proofs.options.given.is_there.Goals as goal

pub returns-clause-there : goal.returns-clause-there
returns-clause-there c found = is_word_there c.word_in.result _ c.word_in.ensures.given (sym c.is_some.ensures ∙ found)

pub returns-clause-absent : goal.returns-clause-absent
returns-clause-absent c missing =
    is_word_absent c.word_in.result _ c.word_in.ensures.absent (sym c.is_some.ensures ∙ missing)
