-- The seats so far are told.
use Rattle.rfb_session.specs.ShareMoves.{IsRelayed}
use Rattle.rfb_session.proofs.SlotLemmas.{Halfway}
use Rattle.rfb_session.proofs.share.mirroring.telling.tell_all.Given as goal

abbrev pub invariant-loop-slot : goal.invariant-loop-slot
invariant-loop-slot l =
    Halfway (λ a b. IsRelayed l.picture l.damage l.moves a b) l.fn.slots l.slots l.slot-index
