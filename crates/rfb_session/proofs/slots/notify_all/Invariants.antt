use Rattle.rfb_session.proofs.SlotLemmas.{Halfway}
use Rattle.rfb_session.proofs.slots.notify_all.Given as goal

abbrev pub invariant-loop-slot : goal.invariant-loop-slot
invariant-loop-slot g l =
    Halfway (λ a b. g.F.Follower.Notified l.notice a b) l.fn.slots l.slots l.slot-index
