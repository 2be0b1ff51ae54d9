use Rattle.std.proofs.Common.{◌∙◌, ap, arith, length}
use Rattle.rfb.specs.Script.{lines_left}
use Rattle.rfb.proofs.FirstLineLemmas.{line_first, line_last}
use Rattle.rfb.proofs.script.parting.LinesIterator.next.Goals as goal

pub returns-in-Some-clause-steps : goal.returns-in-Some-clause-steps
returns-in-Some-clause-steps c =
    ap lines_left c.in_ok-text.was
    ∙ line_first c.in_ok-text.text.now c.in-Some.end c.in-Some.ensures.0 c.in-Some.ensures.1

pub returns-in-Some-clause-goes : goal.returns-in-Some-clause-goes
returns-in-Some-clause-goes c =
    let fewer = ap (λ lines. length lines)
    (ap lines_left c.in_ok-text.was
    ∙ line_first c.in_ok-text.text.now c.in-Some.end c.in-Some.ensures.0 c.in-Some.ensures.1) in
    record { on = λ finite. (tt, tt, omega (arith, fewer)); keeps = tt; rests = λ finite. tt }

pub returns-in-None-clause-steps : goal.returns-in-None-clause-steps
returns-in-None-clause-steps c =
    ap lines_left c.in_ok-text.was ∙ line_last c.in_ok-text.text.now c.in-None.ensures
