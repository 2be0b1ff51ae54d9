use Rattle.rfb_server.proofs.EnteringLemmas.{takes_if}
use Rattle.rfb_server.proofs.late.stage.Stage.feed.Goals as goal

pub returns-in-Entering-clause-takes : goal.returns-in-Entering-clause-takes
returns-in-Entering-clause-takes c = rw c.in-Entering.is c.greet.ensures.takes

pub returns-in-Within-clause-takes : goal.returns-in-Within-clause-takes
returns-in-Within-clause-takes c = rw c.in-Within.is
    (takes_if c.args.bytes.now c.in-Within.session c.feed.new.self c.feed.result c.feed.ensures.used
    c.feed.ensures.all c.feed.ensures.some c.feed.ensures.fed)
