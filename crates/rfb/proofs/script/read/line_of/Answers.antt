use Rattle.std.proofs.Common.{◌∙◌, sym, subst, codes, arith, List, ℕ}
use Rattle.std.proofs.lemmas.Grind.{common_steps}
use Rattle.rfb.specs.Script.{SaysEvent, SaysNothing}
use Rattle.rfb.proofs.HubWordLemmas.{split_texts}
use Rattle.rfb_session.proofs.WordLaws.{empty_of, other_word}
use Rattle.rfb.proofs.ScriptLemmas.{line_none, only_event, only_screen, only_viewer, says_settle, says_size, says_wants}
use Rattle.rfb.proofs.script.read.line_of.Goals as goal

pub returns-in_err-read_size : goal.returns-in_err-read_size
returns-in_err-read_size c =
    rw c.from_residual-in_err-read_size.ensures
    (line_none c.args.words.now c.in_ok-keyword.keyword.now c.in_ok-keyword.rest.now (codes "screen")
    c.in_ok-keyword.ensures.cases.0 (sym c.eq-2.ensures ∙ c.if-eq-2.true) (only_screen _ c.in_err-read_size.ensures))

pub returns-then-eq-2 : goal.returns-then-eq-2
returns-then-eq-2 c =
    says_size c.args.words.now c.in_ok-keyword.keyword.now c.in_ok-keyword.rest.now c.in_ok-keyword.ensures.cases.0
    (sym c.eq-2.ensures ∙ c.if-eq-2.true) c.in_ok-read_size.field-0 c.in_ok-read_size.ensures

pub returns-in_err-read_wants : goal.returns-in_err-read_wants
returns-in_err-read_wants c =
    rw c.from_residual-in_err-read_wants.ensures (line_none c.args.words.now c.in_ok-keyword.keyword.now
    c.in_ok-keyword.rest.now (codes "viewer") c.in_ok-keyword.ensures.cases.0 (sym c.eq-3.ensures ∙ c.if-eq-3.true)
    (only_viewer _ c.in_err-read_wants.ensures))

pub returns-then-eq-3 : goal.returns-then-eq-3
returns-then-eq-3 c =
    says_wants c.args.words.now c.in_ok-keyword.keyword.now c.in_ok-keyword.rest.now c.in_ok-keyword.ensures.cases.0
    (sym c.eq-3.ensures ∙ c.if-eq-3.true) c.in_ok-read_wants.field-0 c.in_ok-read_wants.ensures

pub returns-then-is_empty : goal.returns-then-is_empty
returns-then-is_empty c =
    says_settle c.args.words.now c.in_ok-keyword.keyword.now c.in_ok-keyword.rest.now c.in_ok-keyword.ensures.cases.0
    (sym c.eq.ensures ∙ c.if-eq.true) (empty_of _ _ c.is_empty.ensures c.if-is_empty.true)

pub returns-in_err-keyword : goal.returns-in_err-keyword
returns-in_err-keyword c = grind (arith, common_steps)

pub returns-then-eq : goal.returns-then-eq
returns-then-eq c = grind (arith, common_steps)

pub returns-in_err-event_of : goal.returns-in_err-event_of
returns-in_err-event_of c =
    let k = c.in_ok-keyword in
    rw c.from_residual-in_err-event_of.ensures (subst (λ (l : List (List ℕ)). SaysNothing l)
    (sym (split_texts c.args.words.now k.keyword.now k.rest.now k.ensures.cases.0))
    (only_event k.keyword.now.now _ (other_word _ _ (sym c.eq-2.ensures ∙ c.if-eq-2.false))
    (other_word _ _ (sym c.eq-3.ensures ∙ c.if-eq-3.false)) (other_word _ _ (sym c.eq.ensures ∙ c.if-eq.false))
    c.in_err-event_of.ensures))

pub returns : goal.returns
returns c =
    let k = c.in_ok-keyword in
    subst (λ (l : List (List ℕ)). SaysEvent l c.in_ok-event_of.field-0)
    (sym (split_texts c.args.words.now k.keyword.now k.rest.now k.ensures.cases.0)) c.in_ok-event_of.ensures
