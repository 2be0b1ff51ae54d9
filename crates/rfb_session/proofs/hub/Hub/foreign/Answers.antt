use Rattle.std.proofs.Common.{◌≡◌, ◌<◌, length, List, ℕ, sym, refl, ◌∙◌, subst, arith}
use Rattle.rfb_server.specs.declared.session.Session.{Session}
use Rattle.rfb_server.specs.KnownScreen.{Follows}
use Rattle.rfb_session.specs.declared.hub.event.HubEvent.TheVariants.{Foreign}
use Rattle.rfb_session.specs.HubSeats.{TakesForeign}
use Rattle.rfb_session.specs.HubSteps.{Fed}
use Rattle.rfb_session.proofs.HubDrawLemmas.{one_set}
use Rattle.rfb_session.proofs.HubSlotLemmas.{taken_in}
use Rattle.rfb_session.proofs.SlotLemmas.{at_slot, each_seat, on_seat, seat_set_same, seat_set_other}
use Rattle.rfb_session.proofs.HubStepLemmas.{foreign_steps}
use Rattle.rfb_session.proofs.hub.Hub.foreign.Goals as goal

pub invariant_of-self : goal.invariant_of-self
invariant_of-self c =
    let s = c.args.self.now in
    let within : c.args.slot < length s.slots = omega (arith, c.if-place-ge-SLOTS.false, s.eight) in
    one_set s c.args.slot c.take_foreign.new.slot c.if-place-ge-SLOTS.false
    (λ seat is.
    let one = on_seat (λ a b. b.link.session ≡ a.link.session) _ c.take_foreign.new.slot seat
    c.take_foreign.ensures.session is in
    subst (λ (x : Session). Follows s.screen x) (sym one.2)
    (each_seat (λ y. Follows s.screen y.link.session) s.slots s.follow c.args.slot one.0
    (sym (at_slot s.slots c.args.slot _ within) ∙ one.1)))

pub returns-clause-steps : goal.returns-clause-steps
returns-clause-steps c =
    let s = c.args.self.now in
    let within : c.args.slot < length s.slots = omega (arith, c.if-place-ge-SLOTS.false, s.eight) in
    let one = taken_in c.in_ok-take_foreign.field-0 c.deref.result.now _ c.take_foreign.new.slot
    c.in_ok-take_foreign.ensures.taken c.if-not-branch.false in
    let fed = Fed one.0 one.1 (sym (at_slot s.slots c.args.slot _ within) ∙ one.2)
    c.told_made.ensures.refused
    (seat_set_same s.slots c.args.slot c.take_foreign.new.slot within ∙ one.3)
    (subst (λ (b : List ℕ). TakesForeign b one.0 one.1) c.deref.ensures.value one.4) in
    foreign_steps s _ (Foreign c.args.slot c.args.bytes.now) c.args.slot c.args.bytes.now.items
    c.told_made.result c.told_made.ensures.mere refl refl refl fed
    (refl, c.told_made.ensures.mere, fed) (λ k is. is) (λ k a b stays. stays) (λ e n k. refl)
    (λ e n k. tt)
    (λ k differ. seat_set_other s.slots c.args.slot k c.take_foreign.new.slot differ)
    (λ some. absurd (some c.told_made.ensures.refused))
