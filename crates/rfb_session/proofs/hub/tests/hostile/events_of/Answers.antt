use Rattle.std.proofs.lemmas.List.Elements.{All-push}
use Rattle.rfb_session.specs.Hub.{HasFewHubBytes}
use Rattle.rfb_session.proofs.hub.tests.hostile.events_of.Goals as goal
use Rattle.rfb_session.proofs.hub.tests.hostile.events_of.Goals.{in-Some+in_ok-push, in_default}

pub loop-at-preserved : goal.loop-at-preserved
loop-at-preserved c = elim c.match-branch-2.branch [
  | in-Some+in_ok-push w ↦
      let few : HasFewHubBytes w.in-Some.event =
      c.in_ok-event.ensures w.in-Some.event w.in-Some.is in
      rw (w.events-is, w.in_ok-push.ensures.items)
      (All-push HasFewHubBytes c.loop-at.events.items w.in-Some.event c.loop-at.invariant few)
  | in_default w ↦ rw w.events-is c.loop-at.invariant
]
