use Rattle.std.proofs.Common.{◌<◌, ℕ, Some, length, sym, refl, ap, ◌∙◌, arith}
use Rattle.rfb_session.specs.ShareScreen.{shown_on}
use Rattle.rfb_session.specs.ShareSteps.{Joined}
use Rattle.rfb_session.proofs.KinLemmas.{alike_apart, alike_left}
use Rattle.rfb_session.proofs.ShareLemmas.{one_follows}
use Rattle.rfb_session.proofs.SlotLemmas.{seat_set_same, seat_set_other}
use Rattle.rfb_session.proofs.ShareStateLemmas.{sound_kin, sound_with}
use Rattle.rfb_session.proofs.share.Share.join.Goals as goal

pub invariant_of-self : goal.invariant_of-self
invariant_of-self c =
    let s = c.args.self.now in
    assumption (sound_kin s c.leave.new.self
    (alike_left s.kin c.leave.new.self s.seats c.in-Some.place c.leave.ensures s.alike))

pub invariant_of-self-2 : goal.invariant_of-self-2
invariant_of-self-2 c =
    let s = c.args.self.now in
    let slot = c.seat_in.new.slot in
    assumption (sound_with s c.in-Some.place c.in-Some.ensures.found.0 slot c.with-self.result c.at-taken.result
    (sym c.at-taken.ensures) c.with-self.ensures
    (λ seat is. one_follows (shown_on s.screen) slot _ seat c.seat_in.ensures is c.in_ok-seat.ensures.follows)
    c.leave.new.self (alike_apart s.kin c.leave.new.self s.seats c.in-Some.place slot c.leave.ensures s.alike))

pub returns-clause-joins : goal.returns-clause-joins
returns-clause-joins c =
    let s = c.args.self.now in
    let k = c.in-Some.place in
    let found = c.in-Some.ensures.found in
    let within : k < length s.seats = omega (arith, found.0, s.eight) in
    Joined k (ap (λ (n : ℕ). Some n) c.at-taken.ensures) found.0 found.1 c.in-Some.ensures.first c.in_ok-seat.seat
    (seat_set_same s.seats k c.seat_in.new.slot within ∙ c.seat_in.ensures) c.in_ok-seat.ensures
    (record { screen = refl; canvas = refl; viewer = refl; made = refl })
    (λ j differ. seat_set_other s.seats k j c.seat_in.new.slot differ)
