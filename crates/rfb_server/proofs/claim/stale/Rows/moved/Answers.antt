use Rattle.rfb_server.proofs.StaleLemmas.{row_moved}
use Rattle.rfb_server.proofs.claim.stale.Rows.moved.Goals as goal

pub returns : goal.returns
returns c = λ s y far low fresh.
    row_moved c.args.self (record { first = c.moved.result; end = c.moved-2.result }) c.args.from c.args.to s y far low
    c.moved.ensures.low c.moved-2.ensures.high fresh
