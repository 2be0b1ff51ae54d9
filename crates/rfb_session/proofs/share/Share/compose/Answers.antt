use Rattle.rfb_session.specs.ShareScreen.{shown_on}
use Rattle.rfb_session.proofs.KinLemmas.{alike_apart, idle_apart, still_composes, still_wants, told_apart, told_idle}
use Rattle.rfb_session.proofs.ShareStateLemmas.{alike_at, place_follows, sound_more, sound_with, sound_rests}
use Rattle.rfb_session.proofs.ShareWorkLemmas.{idle_rests}
use Rattle.rfb_session.proofs.share.Share.compose.Goals as goal

pub compose_in-requires : goal.compose_in-requires
compose_in-requires c =
    record { follows = place_follows c.args.self.now c.place-place.result c.place-place.ensures.below _ }

pub invariant_of-self : goal.invariant_of-self
invariant_of-self c =
    let s = c.args.self.now in
    assumption (sound_more s c.with-self.result c.args.seat c.with-self.ensures s.kin s.alike)

pub invariant_of-self-in-Break-1 : goal.invariant_of-self-in-Break-1
invariant_of-self-in-Break-1 c =
    let s = c.args.self.now in
    let slot = c.compose_in.new.slot in
    assumption (sound_with s c.place-place.result c.place-place.ensures.below slot
    c.with-self.result c.args.seat c.place-place.ensures.value c.with-self.ensures c.compose_in.ensures.follows
    s.kin (alike_at s c.place-place.result c.place-place.ensures.below slot _
    (still_wants (shown_on s.screen) _ slot c.in_err-told.ensures.wants)))

pub invariant_of-self-in-Composed : goal.invariant_of-self-in-Composed
invariant_of-self-in-Composed c =
    let s = c.args.self.now in
    let slot = c.compose_in.new.slot in
    assumption (sound_with s c.place-place.result c.place-place.ensures.below slot
    c.with-self.result c.args.seat c.place-place.ensures.value c.with-self.ensures c.compose_in.ensures.follows
    c.leave.new.self (alike_apart s.kin c.leave.new.self s.seats c.place-place.result slot c.leave.ensures s.alike))

pub invariant_of-self-in-Waiting : goal.invariant_of-self-in-Waiting
invariant_of-self-in-Waiting c =
    let s = c.args.self.now in
    let slot = c.compose_in.new.slot in
    let told = c.in_ok-told.told in
    assumption (sound_with s c.place-place.result c.place-place.ensures.below slot
    c.with-self.result c.args.seat c.place-place.ensures.value c.with-self.ensures c.compose_in.ensures.follows
    s.kin (alike_at s c.place-place.result c.place-place.ensures.below slot _
    (still_composes (shown_on s.screen) told _ slot (told_apart told c.in-Waiting.is)
    c.in_ok-told.ensures.composes)))

pub invariant_of-self-in-NotDue : goal.invariant_of-self-in-NotDue
invariant_of-self-in-NotDue c =
    let s = c.args.self.now in
    let slot = c.compose_in.new.slot in
    let told = c.in_ok-told.told in
    assumption (sound_rests s c.place-place.result c.place-place.ensures.below slot c.with-self.result
    c.without-self.result c.args.seat c.place-place.ensures.value c.with-self.ensures c.without-self.ensures
    c.compose_in.ensures.follows
    (idle_rests (shown_on s.screen) told _ slot c.in_ok-told.ensures.composes (told_idle told c.in-NotDue.is))
    s.kin (alike_at s c.place-place.result c.place-place.ensures.below slot _
    (still_composes (shown_on s.screen) told _ slot (idle_apart told c.in-NotDue.is)
    c.in_ok-told.ensures.composes)))
