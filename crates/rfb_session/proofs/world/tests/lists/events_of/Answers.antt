use Rattle.std.proofs.lemmas.List.Elements.{All-push}
use Rattle.rfb_session.specs.World.{HasFewBytes}
use Rattle.rfb_session.proofs.world.tests.lists.events_of.Goals as goal

pub loop-turn-preserved : goal.loop-turn-preserved
loop-turn-preserved c =
    rw c.in_ok-push.ensures.items
    (All-push HasFewBytes c.loop-turn.events.items c.event_at.result c.loop-turn.invariant
    c.event_at.ensures)
