use Rattle.std.proofs.Common.{◌≡◌, ◌∷◌, [], ◌∙◌, sym, subst, ℕ, List, codes}
use Rattle.rfb_session.specs.HubSeats.{event_of}
use Rattle.rfb.specs.Script.{SaysEvent}
use Rattle.rfb.proofs.HubWordLemmas.{is_after, split_texts}
use Rattle.rfb.proofs.HubStepLemmas.{no_at_end, no_at_slot, no_at_words}
use Rattle.rfb_session.proofs.WordLaws.{empty_of}
use Rattle.rfb.proofs.ScriptLemmas.{says_settle}
use Rattle.rfb.proofs.script.hub.hub_line.step_at.Goals as goal

pub returns-then-is_empty : goal.returns-then-is_empty
returns-then-is_empty c =
    is_after c.args.words.now c.in_ok-slot.slot.now c.in_ok-slot.line.now (λ (l : List (List ℕ)). l
    ≡ codes "settle" ∷ []) c.in_ok-slot-2.slot c.in_ok-slot.ensures.cases.0 c.in_ok-slot-2.ensures
    (says_settle c.in_ok-slot.line.now c.in_ok-keyword.keyword.now
    c.in_ok-keyword.rest.now c.in_ok-keyword.ensures.cases.0 (sym c.eq.ensures ∙ c.if-eq.true)
    (empty_of _ _ c.is_empty.ensures c.if-is_empty.true))

pub returns : goal.returns
returns c =
    is_after c.args.words.now c.in_ok-slot.slot.now c.in_ok-slot.line.now
    (λ (l : List (List ℕ)). SaysEvent l (event_of c.in_ok-slot_event_of.field-0)) c.in_ok-slot-2.slot
    c.in_ok-slot.ensures.cases.0 c.in_ok-slot-2.ensures
    (subst (λ (l : List (List ℕ)). SaysEvent l (event_of c.in_ok-slot_event_of.field-0))
    (sym (split_texts c.in_ok-slot.line.now c.in_ok-keyword.keyword.now c.in_ok-keyword.rest.now
    c.in_ok-keyword.ensures.cases.0)) c.in_ok-slot_event_of.ensures)

pub returns-in_err-slot-2 : goal.returns-in_err-slot-2
returns-in_err-slot-2 c =
    rw c.from_residual-in_err-slot-2.ensures (no_at_slot c.args.words.now c.in_ok-slot.slot.now c.in_ok-slot.line.now
    c.in_ok-slot.ensures.cases.0 (λ s is few. c.in_err-slot-2.ensures s (is, few)))

pub returns-in_err-slot : goal.returns-in_err-slot
returns-in_err-slot c = rw c.from_residual.ensures (no_at_words c.args.words.now c.in_err-slot.ensures.cases)

pub returns-in_err-keyword : goal.returns-in_err-keyword
returns-in_err-keyword c =
    rw c.from_residual-in_err-keyword.ensures (no_at_end c.args.words.now c.in_ok-slot.slot.now c.in_ok-slot.line.now
    c.in_ok-slot.ensures.cases.0 c.in_err-keyword.ensures.cases)
