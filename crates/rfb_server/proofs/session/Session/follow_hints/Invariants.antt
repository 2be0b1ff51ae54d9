use Rattle.std.proofs.Common.{◌≡◌, None}
use Rattle.rfb_server.specs.update.Needs.{IsQuiet}
use Rattle.rfb_server.specs.Claims.{IsClaimed}
use Rattle.rfb_server.specs.KnownScreen.{Follows}
use Rattle.rfb_server.specs.update.Sends.{IsKept}
use Rattle.rfb_server.proofs.session.Session.follow_hints.Given as goal

-- what the viewer has by the hints so far is known
abbrev pub invariant-loop-index : goal.invariant-loop-index
invariant-loop-index l = record {
  kept : IsKept l.initial.self l.self;
  about : Follows l.screen l.self;
  unclaimed : l.self.claim ≡ None;
  claimed : IsClaimed l.screen l.self.known l.self.format l.claim;
  quiet : IsQuiet l.screen l.self l.quiet;
}
