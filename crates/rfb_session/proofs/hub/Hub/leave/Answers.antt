use Rattle.std.proofs.Common.{◌<◌, length, sym, refl, ap, ◌∙◌, arith}
use Rattle.rfb_session.specs.Slots.{is_taken}
use Rattle.rfb_session.specs.HubSteps.{Left}
use Rattle.rfb_session.proofs.HubDrawLemmas.{one_set}
use Rattle.rfb_session.proofs.HubSlotLemmas.{none_follows}
use Rattle.rfb_session.proofs.SlotLemmas.{at_slot, taken_by, seat_set_same, seat_set_other}
use Rattle.rfb_session.proofs.HubStepLemmas.{leave_steps}
use Rattle.rfb_session.proofs.hub.Hub.leave.Goals as goal

pub invariant_of-self : goal.invariant_of-self
invariant_of-self c =
    one_set c.args.self.now c.args.slot c.empty.new.slot c.if-place-ge-SLOTS.false
    (λ seat is. none_follows c.args.self.now.screen c.empty.new.slot seat c.empty.ensures.empty is)

pub returns : goal.returns
returns c =
    let s = c.args.self.now in
    let within : c.args.slot < length s.slots = omega (arith, c.if-place-ge-SLOTS.false, s.eight) in
    let was = taken_by _ (sym (ap is_taken (at_slot s.slots c.args.slot _ within))
    ∙ (sym c.empty.ensures.taken ∙ c.if-not-empty.false)) in
    leave_steps s _ c.args.slot c.told_made.result c.told_made.ensures.mere refl refl refl
    (Left was.0 was.1 c.told_made.ensures.refused
    (seat_set_same s.slots c.args.slot c.empty.new.slot within ∙ c.empty.ensures.empty))
    (λ k differ. seat_set_other s.slots c.args.slot k c.empty.new.slot differ)
    (λ some. absurd (some c.told_made.ensures.refused))
