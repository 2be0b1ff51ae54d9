use Rattle.std.proofs.Common.{◌∙◌, ap, Some, List, ℕ}
use Rattle.rfb_session.proofs.CutLemmas.{is_space, no_space, rest_here, rest_more, tail_is, word_here, word_more}
use Rattle.rfb_session.proofs.drive.line.cut.Goals as goal

pub returns-then-line-at-eq-SPACE-clause-word : goal.returns-then-line-at-eq-SPACE-clause-word
returns-then-line-at-eq-SPACE-clause-word c =
    word_here c.args.line.now c.loop-at.at c.loop-at-test.true (is_space _ c.if-line-at-eq-SPACE.true)
    c.loop-at.invariant.word

pub returns-then-line-at-eq-SPACE-clause-rest : goal.returns-then-line-at-eq-SPACE-clause-rest
returns-then-line-at-eq-SPACE-clause-rest c =
    ap (λ (l : List ℕ). Some l) (tail_is c.args.line.now c.loop-at.at c.loop-at-test.true)
    ∙ rest_here c.args.line.now c.loop-at.at c.loop-at-test.true (is_space _ c.if-line-at-eq-SPACE.true)
    c.loop-at.invariant.rest

pub loop-at-preserved : goal.loop-at-preserved
loop-at-preserved c =
    let other = no_space _ c.if-line-at-eq-SPACE.false in
    record {
      word = word_more c.args.line.now c.loop-at.at c.loop-at-test.true other c.loop-at.invariant.word;
      rest = rest_more c.args.line.now c.loop-at.at c.loop-at-test.true other c.loop-at.invariant.rest;
    }
