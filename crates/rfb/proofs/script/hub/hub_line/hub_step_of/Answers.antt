use Rattle.std.proofs.Common.{sym, subst, List, ℕ, MatchOption}
use Rattle.rfb.specs.declared.script.hub.hub_step.HubStep.{HubStep}
use Rattle.rfb.specs.HubScript.{SaysHubStep}
use Rattle.rfb.proofs.HubWordLemmas.{split_texts}
use Rattle.rfb_session.proofs.WordLaws.{no_texts}
use Rattle.rfb.proofs.HubStepLemmas.{eq_of_ne, foreign_found, foreign_none, no_hub_words}
use Rattle.rfb.proofs.script.hub.hub_line.hub_step_of.Goals as goal

pub returns-in-Some-2 : goal.returns-in-Some-2
returns-in-Some-2 c =
    foreign_found c.args.words.now c.in-Some.keyword.now c.in-Some.rest.now c.in-Some-2.slot c.in-Some-2.bytes.items
    c.in-Some.ensures.cases.0 (eq_of_ne _ _ c.ne.ensures c.if-ne.false)
    (rw c.in-Some-2.is at c.in_ok-slot.ensures)

pub returns-in-None : goal.returns-in-None
returns-in-None c =
    foreign_none c.args.words.now c.in-Some.keyword.now c.in-Some.rest.now c.in-Some.ensures.cases.0
    (eq_of_ne _ _ c.ne.ensures c.if-ne.false)
    (rw c.in-None.is at c.in_ok-slot.ensures)

pub returns-then-ne : goal.returns-then-ne
returns-then-ne c =
    let k = c.in-Some in
    subst (λ (l : List (List ℕ)). MatchOption c.spare_step_of.result ((step : HubStep) → ¬ (SaysHubStep l step))
    (SaysHubStep l)) (sym (split_texts c.args.words.now k.keyword.now k.rest.now k.ensures.cases.0))
    c.spare_step_of.ensures

pub returns-in_default : goal.returns-in_default
returns-in_default c =
    subst (λ (l : List (List ℕ)). (step : HubStep) → ¬ (SaysHubStep l step))
    (sym (no_texts c.args.words.now c.in_default.ensures.cases)) no_hub_words
