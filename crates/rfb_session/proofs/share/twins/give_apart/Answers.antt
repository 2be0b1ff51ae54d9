use Rattle.std.proofs.Common.{◌∙◌, ◌<◌, None, arith, length, refl}
use Rattle.std.proofs.lemmas.Bool.{OnTrue_at, OnTrue_from}
use Rattle.std.proofs.lemmas.List.{get_or_default, length-set}
use Rattle.rfb_session.proofs.GivenLemmas.{seat_before, seat_between, heir_between, given_between}
use Rattle.rfb_session.proofs.GivenLemmas.{own_before}
use Rattle.rfb_session.proofs.SlotLemmas.{seat_set_same}
use Rattle.rfb_session.proofs.share.twins.give_apart.Goals as goal

-- ---- where the seat that is given it comes before seat `own`

pub give-requires : goal.give-requires
give-requires c =
    let parts = c.split_at_mut-front in
    let front = parts.result.0.now in
    let back = parts.result.1.now in
    heir_between c.args.screen.now c.args.slots.now c.args.own c.args.place _ _
    (seat_between c.args.slots.now front back c.args.own parts.ensures.value parts.ensures.front_len
    ∙ get_or_default back 0 None c.index-back-0.result (omega (arith, parts.ensures.back_len)))
    (seat_before c.args.slots.now front back c.args.place parts.ensures.value
    (omega (arith, parts.ensures.front_len))
    ∙ get_or_default front c.args.place None c.index-front-place.result (omega (arith, parts.ensures.front_len)))
    c.requires.twin.heir

pub returns-then-place-own-clause-given : goal.returns-then-place-own-clause-given
returns-then-place-own-clause-given c =
    let parts = c.split_at_mut-front in
    let front = parts.result.0.now in
    let back = parts.result.1.now in
    let below : c.args.place < length front = omega (arith, parts.ensures.front_len) in
    OnTrue_from c.give.result _ (λ e.
    given_between c.args.screen.now c.args.slots.now _ c.args.own c.args.place _ _ _
    (seat_between c.args.slots.now front back c.args.own parts.ensures.value parts.ensures.front_len
    ∙ get_or_default back 0 None c.index-back-0.result (omega (arith, parts.ensures.back_len)))
    (seat_before c.args.slots.now front back c.args.place parts.ensures.value below
    ∙ get_or_default front c.args.place None c.index-front-place.result below)
    (seat_before _ _ back c.args.place refl (omega (arith, below, length-set front c.args.place c.give.new.slot))
    ∙ seat_set_same front c.args.place c.give.new.slot below)
    (OnTrue_at e c.give.ensures.given) (OnTrue_at e c.give.ensures.follows))

-- ---- and where it comes after it

pub give-requires-else-place-own : goal.give-requires-else-place-own
give-requires-else-place-own c =
    let parts = c.split_at_mut-front-else-place-own in
    let front = parts.result.0.now in
    let back = parts.result.1.now in
    let below = own_before c.args.place c.args.own c.requires.twin.apart c.if-place-own.false in
    let inside : c.args.own < length front = omega (arith, below, parts.ensures.front_len) in
    heir_between c.args.screen.now c.args.slots.now c.args.own c.args.place _ _
    (seat_before c.args.slots.now front back c.args.own parts.ensures.value inside
    ∙ get_or_default front c.args.own None c.index-front-own.result inside)
    (seat_between c.args.slots.now front back c.args.place parts.ensures.value parts.ensures.front_len
    ∙ get_or_default back 0 None c.index-back-0-else-place-own.result (omega (arith, parts.ensures.back_len)))
    c.requires.twin.heir

pub returns-else-place-own-clause-given : goal.returns-else-place-own-clause-given
returns-else-place-own-clause-given c =
    let parts = c.split_at_mut-front-else-place-own in
    let front = parts.result.0.now in
    let back = parts.result.1.now in
    let below = own_before c.args.place c.args.own c.requires.twin.apart c.if-place-own.false in
    let inside : c.args.own < length front = omega (arith, below, parts.ensures.front_len) in
    let some : 0 < length back = omega (arith, parts.ensures.back_len) in
    OnTrue_from c.give-else-place-own.result _ (λ e.
    given_between c.args.screen.now c.args.slots.now _ c.args.own c.args.place _ _ _
    (seat_before c.args.slots.now front back c.args.own parts.ensures.value inside
    ∙ get_or_default front c.args.own None c.index-front-own.result inside)
    (seat_between c.args.slots.now front back c.args.place parts.ensures.value parts.ensures.front_len
    ∙ get_or_default back 0 None c.index-back-0-else-place-own.result some)
    (seat_between _ front _ c.args.place refl parts.ensures.front_len
    ∙ seat_set_same back 0 c.give-else-place-own.new.slot some)
    (OnTrue_at e c.give-else-place-own.ensures.given) (OnTrue_at e c.give-else-place-own.ensures.follows))
