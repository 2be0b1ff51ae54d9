use Rattle.std.proofs.Common.{◌≡◌}
use Rattle.rfb_server.specs.KnownScreen.{Follows}
use Rattle.rfb_server.specs.session.Sessions.{IsSame}
use Rattle.rfb_server.specs.update.Copies.{AreMarkedFor}
use Rattle.rfb_server.proofs.session.Session.mark_hints.Given as goal

-- all but marks is as it was
abbrev pub invariant-loop-index : goal.invariant-loop-index
invariant-loop-index l = record {
  about : Follows l.screen l.self;
  same : IsSame l.initial.self l.self;
  hints : l.self.hints ≡ l.initial.self.hints;
  marked : AreMarkedFor l.screen l.self l.index;
}
