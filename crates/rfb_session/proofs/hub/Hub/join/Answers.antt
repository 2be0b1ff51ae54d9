use Rattle.std.proofs.Common.{◌<◌, length, sym, refl, ◌∙◌, arith}
use Rattle.rfb_session.specs.HubSteps.{Taken, Joined}
use Rattle.rfb_session.proofs.HubDrawLemmas.{one_set}
use Rattle.rfb_session.proofs.HubSlotLemmas.{same_follows}
use Rattle.rfb_session.proofs.SlotLemmas.{not_taken, taken_by, seat_set_same, seat_set_other}
use Rattle.rfb_session.proofs.HubStepLemmas.{join_steps}
use Rattle.rfb_session.proofs.hub.Hub.join.Goals as goal

pub returns-then-taken-clause-steps : goal.returns-then-taken-clause-steps
returns-then-taken-clause-steps c =
    let s = c.args.self.now in
    let told = c.told_refused-then-taken in
    let there = taken_by _ (sym c.taken.ensures ∙ c.if-taken.true) in
    join_steps s s c.args.slot c.args.setup.now told.result told.ensures.mere refl refl refl
    (Taken (omega (arith, c.if-wanted-ge-SLOTS.false)) there.0 there.1 told.ensures.refused)
    (λ k differ. refl) (λ some. refl)

pub invariant_of-self : goal.invariant_of-self
invariant_of-self c =
    one_set c.args.self.now c.args.slot c.seat_in.new.slot c.if-wanted-ge-SLOTS.false
    (λ seat is. same_follows c.args.self.now.screen c.seat_in.new.slot _ seat c.seat_in.ensures is
    c.in_ok-seat.ensures.follows)

pub returns-clause-steps : goal.returns-clause-steps
returns-clause-steps c =
    let s = c.args.self.now in
    let within : c.args.slot < length s.slots = omega (arith, c.if-wanted-ge-SLOTS.false, s.eight) in
    join_steps s _ c.args.slot c.args.setup.now c.told_made.result c.told_made.ensures.mere refl
    refl refl (Joined (omega (arith, c.if-wanted-ge-SLOTS.false))
    (not_taken _ (sym c.taken.ensures ∙ c.if-taken.false)) c.told_made.ensures.refused
    c.in_ok-seat.seat (seat_set_same s.slots c.args.slot c.seat_in.new.slot within ∙ c.seat_in.ensures)
    c.in_ok-seat.ensures)
    (λ k differ. seat_set_other s.slots c.args.slot k c.seat_in.new.slot differ)
    (λ some. absurd (some c.told_made.ensures.refused))
