use Rattle.std.proofs.Common.{◌∙◌, sym, codes}
use Rattle.rfb.proofs.HubStepLemmas.{at_read, no_step_of, hub_join, hub_leave, only_drawn}
use Rattle.rfb_session.proofs.WordLaws.{begins_with, other_word}
use Rattle.rfb.proofs.script.hub.hub_line.spare_step_of.Goals as goal

pub returns-in_err-slot : goal.returns-in_err-slot
returns-in_err-slot c =
    rw c.from_residual.ensures (no_step_of c.args.keyword.now (codes "join") _ (sym c.eq.ensures ∙ c.if-eq.true)
    (hub_join _ c.in_err-slot.ensures))

pub returns-in_err-read_only_slot : goal.returns-in_err-read_only_slot
returns-in_err-read_only_slot c =
    rw c.from_residual-in_err-read_only_slot.ensures (no_step_of c.args.keyword.now (codes "leave") _
    (sym c.eq-2.ensures ∙ c.if-eq-2.true) (hub_leave _ c.in_err-read_only_slot.ensures))

pub returns-then-eq-3 : goal.returns-then-eq-3
returns-then-eq-3 c =
    at_read c.args.keyword.now _ (sym c.eq-3.ensures ∙ c.if-eq-3.true) c.step_at.result c.step_at.ensures

pub returns-in_err-rect : goal.returns-in_err-rect
returns-in_err-rect c =
    rw c.from_residual-in_err-rect.ensures
    (only_drawn c.args.keyword.now _ (other_word _ _ (sym c.eq.ensures ∙ c.if-eq.false))
    (other_word _ _ (sym c.eq-2.ensures ∙ c.if-eq-2.false)) c.requires.foreign
    (other_word _ _ (sym c.eq-3.ensures ∙ c.if-eq-3.false)) c.in_err-rect.ensures)

pub returns-in-Fill : goal.returns-in-Fill
returns-in-Fill c = rw c.in-Fill.is at c.in_ok-rect.ensures

pub returns-in-Copy : goal.returns-in-Copy
returns-in-Copy c = rw c.in-Copy.is at c.in_ok-rect.ensures

pub returns-in-Hint : goal.returns-in-Hint
returns-in-Hint c = rw c.in-Hint.is at c.in_ok-rect.ensures

pub returns-then-eq : goal.returns-then-eq
returns-then-eq c =
    begins_with _ _ _ _ (sym c.eq.ensures ∙ c.if-eq.true) c.in_ok-slot.ensures

pub returns-then-eq-2 : goal.returns-then-eq-2
returns-then-eq-2 c =
    begins_with _ _ _ _ (sym c.eq-2.ensures ∙ c.if-eq-2.true) c.in_ok-read_only_slot.ensures
