use Rattle.rfb_server.proofs.EncodingLemmas.{may_send_at}
use Rattle.rfb_server.proofs.encodings.EncodingList.preferred.Goals as goal

pub returns-then-not-same-clause-sendable : goal.returns-then-not-same-clause-sendable
returns-then-not-same-clause-sendable c =
    rw (← c.as_slice-list.ensures) (may_send_at c.as_slice-list.result.now c.loop-i.i _ c.loop-i-test.true)
