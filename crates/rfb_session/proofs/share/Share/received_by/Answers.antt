use Rattle.std.proofs.Common.{◌<◌, ◌≡◌, ◌&&◌, ℕ, true, length, set, sym, refl, ap, ◌∙◌, arith}
use Rattle.std.proofs.lemmas.Result.{err_from_is_err_and}
use Rattle.rfb_picture.specs.Places.{has_bit}
use Rattle.rfb_server.specs.Told.{seen}
use Rattle.rfb_session.specs.ShareSteps.{asks_alone}
use Rattle.rfb_session.proofs.ShareLemmas.{refused_there, received_there, refused_as, received_as, seen_none}
use Rattle.rfb_session.proofs.SlotLemmas.{at_slot, ends_sole, ends_none, flag_others}
use Rattle.rfb_session.proofs.SlotLemmas.{stays_emptied, stays_clear, seat_set_same, seat_set_other}
use Rattle.rfb_session.proofs.ShareStateLemmas.{alike_after, sound_more, sound_heard, sound_emptied}
use Rattle.rfb_session.proofs.share.Share.received_by.Goals as goal

pub invariant_of-self : goal.invariant_of-self
invariant_of-self c =
    let s = c.args.self.now in
    assumption (sound_more s c.with-self.result c.args.seat c.with-self.ensures s.kin s.alike)

pub invariant_of-self-in-Break-1 : goal.invariant_of-self-in-Break-1
invariant_of-self-in-Break-1 c =
    let s = c.args.self.now in
    let k = c.place-place.result in
    assumption (sound_heard s k c.place-place.ensures.below c.hear_at.new.slot
    c.with-self.result c.args.seat _ c.place-place.ensures.value c.with-self.ensures c.hear_at.ensures.follows
    c.hear_at.new.kin
    (alike_after s k c.place-place.ensures.below c.hear_at.new.slot _ c.hear_at.new.kin c.hear_at.ensures.kin))

pub returns-in_err-fed-clause-refused : goal.returns-in_err-fed-clause-refused
returns-in_err-fed-clause-refused c =
    let p = err_from_is_err_and c.from_residual.result c.from_residual.ensures.1 in
    rw (p.1, p.2) (let s = c.args.self.now in
    let k = c.place-place.result in
    let within : k < length s.seats = omega (arith, c.place-place.ensures.below, s.eight) in
    refused_there s _ k c.args.seat c.args.bytes.now c.in_err-fed.field-0.0 c.place-place.ensures.value
    (refused_as s _ k c.args.bytes.now c.in_err-fed.field-0.0 _ c.hear_at.new.slot c.in_err-fed.ensures.ended
    (sym (at_slot s.seats k _ within)) (seat_set_same s.seats k c.hear_at.new.slot within)
    (record { screen = refl; canvas = refl; viewer = refl; made = refl })
    (λ j differ. seat_set_other s.seats k j c.hear_at.new.slot differ)))

pub invariant_of-self-then-is_sole : goal.invariant_of-self-then-is_sole
invariant_of-self-then-is_sole c =
    let s = c.args.self.now in
    let k = c.place-place.result in
    let others = c.empty_others-ended.ensures in
    assumption (sound_emptied s.screen (set s.seats k c.hear_at.new.slot) c.empty_others-ended.new.slots
    c.with-self.result k
    c.hear_at.new.kin
    (sound_heard s k c.place-place.ensures.below c.hear_at.new.slot c.with-self.result c.args.seat _
    c.place-place.ensures.value c.with-self.ensures c.hear_at.ensures.follows c.hear_at.new.kin
    (alike_after s k c.place-place.ensures.below c.hear_at.new.slot _ c.hear_at.new.kin c.hear_at.ensures.kin))
    others.size others.own others.others)

pub returns-then-is_sole-clause-heard : goal.returns-then-is_sole-clause-heard
returns-then-is_sole-clause-heard c =
    let s = c.args.self.now in
    let k = c.place-place.result in
    let within : k < length s.seats = omega (arith, c.place-place.ensures.below, s.eight) in
    let told = seen c.in_ok-fed.fed.event in
    let sole = c.args.heeds && asks_alone told in
    let alone : sole ≡ true = sym c.is_sole.ensures ∙ c.if-is_sole.true in
    let bits = ends_sole s.seats k c.empty_others-ended.result c.hear_at.new.slot sole
    alone c.empty_others-ended.ensures.ended in
    let ended = c.told_of.ensures.ended in
    received_there c.args.heeds s _ k c.args.seat c.args.bytes.now c.told_of.result c.place-place.ensures.value
    (received_as c.args.heeds s _ k c.args.bytes.now c.in_ok-fed.fed.used c.told_of.result told _ c.hear_at.new.slot
    c.in_ok-fed.ensures.heard (sym (at_slot s.seats k _ within))
    (c.empty_others-ended.ensures.own ∙ seat_set_same s.seats k c.hear_at.new.slot within)
    c.told_of.ensures.used
    (λ none. c.in_ok-fed.ensures.taken.all (seen_none c.in_ok-fed.fed.event none))
    (c.told_of.ensures.seat ∙ sym c.place-place.ensures.value) c.told_of.ensures.event
    (λ j. ap (λ (n : ℕ). has_bit n j) ended ∙ bits j)
    (λ j differ. stays_emptied _ _ _ (flag_others s.seats k j c.empty_others-ended.result
    c.told_of.result.ended sole ended alone bits differ)
    (c.empty_others-ended.ensures.others j differ))
    (record { screen = refl; canvas = refl; viewer = refl; made = refl }))

pub invariant_of-self-else-is_sole : goal.invariant_of-self-else-is_sole
invariant_of-self-else-is_sole c =
    let s = c.args.self.now in
    let k = c.place-place.result in
    assumption (sound_heard s k c.place-place.ensures.below c.hear_at.new.slot
    c.with-self.result c.args.seat _ c.place-place.ensures.value c.with-self.ensures c.hear_at.ensures.follows
    c.hear_at.new.kin
    (alike_after s k c.place-place.ensures.below c.hear_at.new.slot _ c.hear_at.new.kin c.hear_at.ensures.kin))

pub returns-clause-heard : goal.returns-clause-heard
returns-clause-heard c =
    let s = c.args.self.now in
    let k = c.place-place.result in
    let within : k < length s.seats = omega (arith, c.place-place.ensures.below, s.eight) in
    let told = seen c.in_ok-fed.fed.event in
    let shares = sym c.is_sole.ensures ∙ c.if-is_sole.false in
    let heard = c.told_of-2 in
    received_there c.args.heeds s _ k c.args.seat c.args.bytes.now heard.result c.place-place.ensures.value
    (received_as c.args.heeds s _ k c.args.bytes.now c.in_ok-fed.fed.used heard.result told _ c.hear_at.new.slot
    c.in_ok-fed.ensures.heard (sym (at_slot s.seats k _ within))
    (seat_set_same s.seats k c.hear_at.new.slot within) heard.ensures.used
    (λ none. c.in_ok-fed.ensures.taken.all (seen_none c.in_ok-fed.fed.event none))
    (heard.ensures.seat ∙ sym c.place-place.ensures.value) heard.ensures.event
    (ends_none s.seats k heard.result.ended (c.args.heeds && asks_alone told) shares heard.ensures.ended)
    (λ j differ. stays_clear heard.result.ended j _ _ heard.ensures.ended
    (seat_set_other s.seats k j c.hear_at.new.slot differ))
    (record { screen = refl; canvas = refl; viewer = refl; made = refl }))
