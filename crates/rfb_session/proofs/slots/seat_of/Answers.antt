use Rattle.std.proofs.Common.{sym, arith}
use Rattle.rfb_session.proofs.SlotLemmas.{none_past}
use Rattle.rfb_session.proofs.slots.seat_of.Goals as goal

pub returns-then-place-ge-SLOTS : goal.returns-then-place-ge-SLOTS
returns-then-place-ge-SLOTS g c =
    sym (none_past c.args.slots.now c.args.slot (omega (arith, c.if-place-ge-SLOTS.true)))
