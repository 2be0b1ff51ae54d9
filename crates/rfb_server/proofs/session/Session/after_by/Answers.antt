use Rattle.std.proofs.Common.{◌∙◌, sym}
use Rattle.rfb_server.proofs.RightLemmas.{all_equal, after_counted}
use Rattle.rfb_server.proofs.session.Session.after_by.Goals as goal

pub returns-clause-value : goal.returns-clause-value
returns-clause-value c =
    c.count_equal.ensures.value
    ∙ after_counted c.args.screen.now c.args.self.now c.args.part c.pixels.result.now c.args.wanted.now
    c.requires.about c.requires.copy c.requires.single c.pixels.ensures.value c.pixels.ensures.columns
    c.pixels.ensures.rows c.requires.wanted c.row-source.result.now c.row-source.ensures.value c.row-source.ensures.len
    c.requires.len

pub returns-then-is_none-clause-value : goal.returns-then-is_none-clause-value
returns-then-is_none-clause-value c =
    c.from.ensures ∙ sym c.requires.len
    ∙ sym (all_equal c.args.wanted.now c.row-source.result.now (c.first_diff.ensures.same.0 c.if-is_none.ensures))
    ∙ after_counted c.args.screen.now c.args.self.now c.args.part c.pixels.result.now c.args.wanted.now
    c.requires.about c.requires.copy c.requires.single c.pixels.ensures.value c.pixels.ensures.columns
    c.pixels.ensures.rows c.requires.wanted c.row-source.result.now c.row-source.ensures.value c.row-source.ensures.len
    c.requires.len
