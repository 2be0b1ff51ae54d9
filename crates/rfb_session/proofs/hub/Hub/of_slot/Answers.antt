use Rattle.std.proofs.Common.{◌<◌, ℕ, length, set, Some, sym, refl, ap, ◌∙◌, arith}
use Rattle.rfb_server.specs.KnownScreen.{Follows}
use Rattle.rfb_picture.specs.Places.{has_bit}
use Rattle.rfb_session.specs.declared.hub.seat.HubSeat.{HubSeat}
use Rattle.rfb_session.proofs.HubDrawLemmas.{one_set, emptied_follow}
use Rattle.rfb_session.proofs.HubSameLemmas.{hub_back}
use Rattle.rfb_session.proofs.HubSlotLemmas.{does_in}
use Rattle.rfb_session.proofs.SlotLemmas.{stays_clear, at_slot, each_seat, ends_sole, ends_none, stays_emptied}
use Rattle.rfb_session.proofs.SlotLemmas.{flag_others, set_back, seat_set_same, seat_set_other}
use Rattle.rfb_session.proofs.HubStepLemmas.{happened_steps, not_refused, refused_there}
use Rattle.rfb_session.proofs.hub.Hub.of_slot.Goals as goal

pub happen_in-requires-clause-follows : goal.happen_in-requires-clause-follows
happen_in-requires-clause-follows c =
    let s = c.args.self.now in
    let within : c.args.slot < length s.slots = omega (arith, c.if-place-ge-SLOTS.false, s.eight) in
    λ x is. each_seat (λ y. Follows s.screen y.link.session) s.slots s.follow c.args.slot x
    (sym (at_slot s.slots c.args.slot _ within) ∙ is)

pub invariant_of-self : goal.invariant_of-self
invariant_of-self c =
    one_set c.args.self.now c.args.slot c.happen_in.new.slot c.if-place-ge-SLOTS.false c.happen_in.ensures.follows

pub invariant_of-self-in-None : goal.invariant_of-self-in-None
invariant_of-self-in-None c =
    one_set c.args.self.now c.args.slot c.happen_in.new.slot c.if-place-ge-SLOTS.false c.happen_in.ensures.follows

pub invariant_of-self-then-delivery : goal.invariant_of-self-then-delivery
invariant_of-self-then-delivery c =
    let s = c.args.self.now in
    let was = one_set s c.args.slot c.happen_in.new.slot c.if-place-ge-SLOTS.false c.happen_in.ensures.follows in
    record {
      eight = c.empty_others-ended.ensures.size ∙ was.eight;
      columns = s.columns;
      rows = s.rows;
      follow = emptied_follow s.screen (set s.slots c.args.slot c.happen_in.new.slot)
          c.empty_others-ended.new.slots c.args.slot was.follow c.empty_others-ended.ensures.own
          c.empty_others-ended.ensures.others;
    }

pub returns-then-delivery-clause-steps : goal.returns-then-delivery-clause-steps
returns-then-delivery-clause-steps c =
    let s = c.args.self.now in
    let i = c.args.slot in
    let d = c.in-Some.delivery in
    let within : c.args.slot < length s.slots = omega (arith, c.if-place-ge-SLOTS.false, s.eight) in
    let one = does_in s.screen c.args.event.now _ c.happen_in.new.slot c.in_ok-happen_in.field-0 d
    c.in_ok-happen_in.ensures.does c.in-Some.is in
    let bits = ends_sole s.slots i c.empty_others-ended.result c.happen_in.new.slot d.sole
    c.if-delivery.true c.empty_others-ended.ensures.ended in
    let ended = c.told_for.ensures.ended in
    happened_steps s _ i c.args.event.now c.told_for.result d one.0 one.1
    (sym (at_slot s.slots i _ within) ∙ one.2)
    (c.empty_others-ended.ensures.own ∙ (seat_set_same s.slots i c.happen_in.new.slot within ∙ one.3))
    one.4 c.told_for.ensures.tells (λ j. ap (λ (n : ℕ). has_bit n j) ended ∙ bits j) refl refl refl
    (λ k differ. stays_emptied _ _ _ (flag_others s.slots i k c.empty_others-ended.result
    c.told_for.result.ended d.sole ended c.if-delivery.true bits differ)
    (c.empty_others-ended.ensures.others k differ))
    (λ some. absurd (some (not_refused d.told c.told_for.result c.told_for.ensures.tells
    (one.4.taken c.if-delivery.true))))

pub invariant_of-self-else-delivery : goal.invariant_of-self-else-delivery
invariant_of-self-else-delivery c =
    one_set c.args.self.now c.args.slot c.happen_in.new.slot c.if-place-ge-SLOTS.false c.happen_in.ensures.follows

pub returns-else-delivery-clause-steps : goal.returns-else-delivery-clause-steps
returns-else-delivery-clause-steps c =
    let s = c.args.self.now in
    let i = c.args.slot in
    let d = c.in-Some.delivery in
    let told = c.told_for-in-Some in
    let within : c.args.slot < length s.slots = omega (arith, c.if-place-ge-SLOTS.false, s.eight) in
    let one = does_in s.screen c.args.event.now _ c.happen_in.new.slot c.in_ok-happen_in.field-0 d
    c.in_ok-happen_in.ensures.does c.in-Some.is in
    let was = sym (at_slot s.slots i _ within) ∙ one.2 in
    happened_steps s _ i c.args.event.now told.result d one.0 one.1 was
    (seat_set_same s.slots i c.happen_in.new.slot within ∙ one.3) one.4 told.ensures.tells
    (ends_none s.slots i told.result.ended d.sole c.if-delivery.false told.ensures.ended) refl refl
    refl
    (λ k differ. stays_clear told.result.ended k _ _ told.ensures.ended
    (seat_set_other s.slots i k c.happen_in.new.slot differ))
    (λ some.
    let same = one.4.kept (refused_there d.told told.result told.ensures.tells some) in
    hub_back s _ (sym (set_back s.slots i c.happen_in.new.slot
    (one.3 ∙ (ap (λ (x : HubSeat). Some x) same ∙ sym was)))) _ _ _ _)
