use Rattle.rfb_server.specs.Told.{seen}
use Rattle.rfb_session.proofs.ShareLemmas.{alone_is}
use Rattle.rfb_session.proofs.share.receiving.is_sole.Goals as goal

pub returns-then-heeds : goal.returns-then-heeds
returns-then-heeds c =
    rw (c.if-heeds.true) (alone_is (seen c.args.event.now) c.asks_sole.result c.asks_sole.ensures)
