use Rattle.std.proofs.Common.{◌≡◌, ◌≤◌, ◌*◌, ◌+◌, vec_len, None}
use Rattle.std.specs.Option.{ForSome}
use Rattle.std.specs.Vec.{vec_capacity}
use Rattle.rfb_server.specs.update.Needs.{IsQuiet}
use Rattle.rfb_server.specs.Claims.{IsClaimed}
use Rattle.rfb_server.specs.KnownScreen.{Follows}
use Rattle.rfb_server.specs.update.Sends.{IsKept}
use Rattle.rfb_server.specs.update.Copies.{AppendsCopies, IsUseful}
use Rattle.rfb_server.proofs.session.Session.send_copies.Given as goal

-- the copies so far were sent, and there is room for the others
abbrev pub invariant-loop-index : goal.invariant-loop-index
invariant-loop-index l = record {
  kept : IsKept l.initial.self l.self;
  about : Follows l.screen l.self;
  unclaimed : l.self.claim ≡ None;
  claimed : IsClaimed l.screen l.self.known l.self.format l.claim;
  useless : ForSome l.useless (λ known. IsUseful l.screen l.self known → ⊥);
  quiet : IsQuiet l.screen l.self l.quiet;
  sent : AppendsCopies l.screen l.index l.initial.self l.self l.initial.out.items l.out.items l.count;
  few : l.count ≤ l.index;
  capacity : vec_capacity l.out ≡ vec_capacity l.initial.out;
  space : vec_len l.out ≤ vec_len l.initial.out + 16 * l.index;
}
