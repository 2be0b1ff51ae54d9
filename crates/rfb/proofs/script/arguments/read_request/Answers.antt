use Rattle.std.proofs.Common.{◌∙◌, sym, arith, true, false}
use Rattle.rfb.proofs.ArgumentLemmas.{is_request, no_kind, no_request, not_request}
use Rattle.rfb_session.proofs.WordLaws.{other_word, same_word}
use Rattle.rfb.proofs.script.arguments.read_request.Goals as goal

pub returns-in_err-read_rect : goal.returns-in_err-read_rect
returns-in_err-read_rect c =
    rw c.from_residual.ensures (no_request c.args.words.now _ (omega arith)
    (λ incremental rect kind are. let bad = c.in_err-read_rect.ensures.found.1 are.numbers in cc))

pub returns-then-eq : goal.returns-then-eq
returns-then-eq c =
    is_request c.args.words.now _ (omega arith) false _ (same_word _ _ (sym c.eq.ensures ∙ c.if-eq.true))
    c.in_ok-read_rect.ensures.value

pub returns-in_err-read_rect-2 : goal.returns-in_err-read_rect-2
returns-in_err-read_rect-2 c =
    rw c.from_residual-in_err-read_rect-2.ensures (no_request c.args.words.now _ (omega arith)
    (λ incremental rect kind are. let bad = c.in_err-read_rect-2.ensures.found.1 are.numbers in cc))

pub returns-then-eq-2 : goal.returns-then-eq-2
returns-then-eq-2 c =
    is_request c.args.words.now _ (omega arith) true _ (same_word _ _ (sym c.eq-2.ensures ∙ c.if-eq-2.true))
    c.in_ok-read_rect-2.ensures.value

pub returns-in_default : goal.returns-in_default
returns-in_default c = not_request c.args.words.now (λ e. omega (arith, e))

pub returns-in_default-2 : goal.returns-in_default-2
returns-in_default-2 c = not_request c.args.words.now (λ e. omega (arith, e))

pub returns : goal.returns
returns c =
    no_request c.args.words.now _ (omega arith)
    (λ incremental rect kind are. no_kind _ (other_word _ _ (sym c.eq.ensures ∙ c.if-eq.false))
    (other_word _ _ (sym c.eq-2.ensures ∙ c.if-eq-2.false)) incremental kind)
