use Rattle.std.proofs.Common.{arith}
use Rattle.rfb_server.specs.Claims.{has_row}
use Rattle.rfb_server.proofs.StaleLemmas.{none_set}
use Rattle.rfb_server.proofs.claim.stale.Stale.add.Goals as goal

pub returns : goal.returns
returns c = λ y fresh.
    let runs = c.args.self.now.runs in
    let (none, covers) = none_set (λ rows. has_row rows y) runs c.loop-at.at c.joined.result
    (record { first = 0; end = 0 }) (omega arith) fresh in
    let both = c.joined.ensures y none in
    (covers (λ all. both.0), both.1)
