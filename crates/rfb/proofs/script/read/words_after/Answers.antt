use Rattle.std.proofs.Common.{◌∙◌, sym}
use Rattle.rfb_session.proofs.WordLaws.{words_are}
use Rattle.rfb.proofs.ScriptLemmas.{none_after_end, none_after_other}
use Rattle.rfb.proofs.script.read.words_after.Goals as goal

pub returns-in_err-first : goal.returns-in_err-first
returns-in_err-first c =
    rw c.from_residual.ensures
    (none_after_end c.args.words.now c.args.keyword.now c.in_err-first.ensures.cases)

pub returns-then-eq : goal.returns-then-eq
returns-then-eq c =
    words_are c.args.words.now c.in_ok-first.first.now c.in_ok-first.rest.now c.args.keyword.now
    c.in_ok-first.ensures.cases.0 (sym c.eq.ensures ∙ c.if-eq.true)

pub returns : goal.returns
returns c =
    none_after_other c.args.words.now c.in_ok-first.first.now c.in_ok-first.rest.now c.args.keyword.now
    c.in_ok-first.ensures.cases.0 (sym c.eq.ensures ∙ c.if-eq.false)
