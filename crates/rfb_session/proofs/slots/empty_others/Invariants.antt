use Rattle.rfb_session.proofs.SlotLemmas.{Emptying}
use Rattle.rfb_session.proofs.slots.empty_others.Given as goal

abbrev pub invariant-loop-k : goal.invariant-loop-k
invariant-loop-k g l = Emptying l.own l.fn.slots l.slots l.k l.ended
