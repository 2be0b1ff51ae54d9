use Rattle.std.proofs.lemmas.Result.{err_from_is_err_and}
use Rattle.rfb_server.proofs.session.Session.feed.Goals as goal

pub returns-in_err-feed_placed-clause-fault : goal.returns-in_err-feed_placed-clause-fault
returns-in_err-feed_placed-clause-fault c =
    let p = err_from_is_err_and c.from_residual.result c.from_residual.ensures.1 in
    rw p.1 (rw p.2 c.in_err-feed_placed.ensures.fault)

pub returns-in_err-feed_placed-clause-memory : goal.returns-in_err-feed_placed-clause-memory
returns-in_err-feed_placed-clause-memory c =
    let p = err_from_is_err_and c.from_residual.result c.from_residual.ensures.1 in
    rw p.1 (rw p.2 c.in_err-feed_placed.ensures.memory)
