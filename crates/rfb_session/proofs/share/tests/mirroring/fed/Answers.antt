use Rattle.rfb_session.proofs.MirrorLemmas.{feed_stands}
use Rattle.rfb_session.proofs.share.tests.mirroring.fed.Goals as goal

pub returns-in-Ok : goal.returns-in-Ok
returns-in-Ok c =
    feed_stands c.args.viewer.now c.feed.new.self c.args.bytes.now c.feed.result c.requires c.feed.ensures.failed
    c.feed.ensures.fed c.feed.ensures.fails
