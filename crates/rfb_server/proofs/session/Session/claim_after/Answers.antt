use Rattle.std.proofs.Common.{◌≡◌, subst}
use Rattle.rfb_server.specs.declared.claim.Claim.{Claim}
use Rattle.rfb_server.specs.Claims.{IsTrue}
use Rattle.rfb_server.proofs.ClaimLemmas.{hit_claimed, still_claimed}
use Rattle.rfb_server.proofs.session.Session.claim_after.Goals as goal

pub returns-then-copy-2 : goal.returns-then-copy-2
returns-then-copy-2 c = λ before after follows told claim this.
    still_claimed c.args.self.now before after c.in-Some.copy claim follows
    (told.copied c.in-Some.copy c.in-Some.is) c.if-copy.true c.if-copy-2.true (follows.claimed claim this)

pub returns-then-copy-gt0-2 : goal.returns-then-copy-gt0-2
returns-then-copy-gt0-2 c = λ before after follows told.
    c.claim_of.ensures before after follows (told.copied c.in-Some.copy c.in-Some.is)

pub returns-in-Some-claim : goal.returns-in-Some-claim
returns-in-Some-claim c = λ before after follows told claim this.
    let s = c.args.self.now in
    let old = c.in-Some-claim.claim in
    let same : c.hit.result ≡ claim = cc in
    let to = c.hit.ensures.to in
    subst (λ (k : Claim). IsTrue after s.known s.format k) same
    (hit_claimed s before after c.args.notice.now.area old c.hit.result follows told.outside
    (follows.claimed old c.in-Some-claim.is) to.0 to.1 to.2 c.hit.ensures.outside)
