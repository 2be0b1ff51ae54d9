use Rattle.std.proofs.Common.{refl}
use Rattle.rfb_session.proofs.ConsoleLemmas.{by_owner, by_seat}
use Rattle.rfb_session.proofs.console.Console.hear_at.Goals as goal

pub returns-then-door-eq-OWNER-clause-does : goal.returns-then-door-eq-OWNER-clause-does
returns-then-door-eq-OWNER-clause-does g c =
    by_owner c.args.door _ _ _ _ c.if-door-eq-OWNER.true c.hear_owner.ensures.hears

pub returns-in-Some-clause-does : goal.returns-in-Some-clause-does
returns-in-Some-clause-does g c =
    by_seat c.args.door _ _ _ _ c.in-Some.seat c.in-Some.ensures.some.1 c.in-Some.ensures.some.0
    (c.args.bytes.now, c.hear_seat.result.used, c.hear_seat.result.event, refl, c.hear_seat.ensures.hears)
