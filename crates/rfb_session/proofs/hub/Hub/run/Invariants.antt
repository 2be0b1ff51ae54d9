use Rattle.std.proofs.Common.{take, All}
use Rattle.rfb_session.specs.Hub.{HasFewHubBytes, HubStands}
use Rattle.rfb_session.specs.HubSteps.{RunsHub}
use Rattle.rfb_session.proofs.hub.Hub.run.Given as goal

abbrev pub invariant-loop-event : goal.invariant-loop-event
invariant-loop-event l = record {
  few : All HasFewHubBytes l.events;
  runs : RunsHub l.fn.self (take l.event-index l.events) l.self;
  stands : HubStands l.fn.self → HubStands l.self;
}
