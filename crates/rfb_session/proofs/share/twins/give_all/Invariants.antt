use Rattle.rfb_session.specs.Slots.{seat_at}
use Rattle.rfb_session.proofs.GivenLemmas.{IsGivenBelow}
use Rattle.rfb_session.proofs.share.twins.give_all.Given as goal

abbrev pub invariant-loop-place : goal.invariant-loop-place
invariant-loop-place l =
    IsGivenBelow l.screen (seat_at l.own l.initial.slots) l.own l.twins l.place l.fn.slots l.slots l.given
