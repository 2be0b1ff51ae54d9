use Rattle.std.proofs.Common.{◌-◌}
use Rattle.rfb_server.specs.update.Needs.{needs_of}
use Rattle.rfb_server.proofs.NeedingLemmas.{IsWide}
use Rattle.rfb_server.proofs.session.Session.widened.Given as goal

abbrev pub invariant-loop-y : goal.invariant-loop-y
invariant-loop-y l = IsWide (needs_of l.screen l.self) l.zone l.top l.bottom l.y l.columns

abbrev pub decreases-loop-y : goal.decreases-loop-y
decreases-loop-y l = l.y - l.top
