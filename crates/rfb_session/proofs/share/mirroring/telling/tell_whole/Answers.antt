use Rattle.std.proofs.Common.{[], Some}
use Rattle.rfb_session.specs.ShareMoves.{IsRelayed, GetsWhole}
use Rattle.rfb_session.specs.Slots.{seat_at}
use Rattle.rfb_session.proofs.ShareMoveLemmas.{whole_told}
use Rattle.rfb_session.proofs.ShareRelayLemmas.{slot_by}
use Rattle.rfb_session.proofs.share.mirroring.telling.tell_whole.Goals as goal

pub returns-clause-told : goal.returns-clause-told
returns-clause-told c = λ k.
    slot_by (λ a b. IsRelayed c.args.picture.now (Some c.whole_of-whole.result) [] a b)
    (λ a b. GetsWhole c.args.picture.now a b) (seat_at k c.args.slots.now) (seat_at k c.tell_all.new.slots)
    (λ a b one. whole_told c.args.picture.now c.whole_of-whole.result a b c.whole_of-whole.ensures.value one)
    (c.tell_all.ensures.told k)
