use Rattle.std.proofs.Common.{All}
use Rattle.rfb_session.specs.Hub.{HasFewHubBytes}
use Rattle.rfb_session.proofs.hub.tests.hostile.events_of.Given as goal

abbrev pub invariant-loop-at : goal.invariant-loop-at
invariant-loop-at l = All HasFewHubBytes l.events.items
