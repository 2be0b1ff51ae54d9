use Rattle.std.proofs.Common.{◌≡◌, refl, subst}
use Rattle.rfb_server.specs.declared.claim.Claim.{Claim}
use Rattle.rfb_server.specs.Claims.{IsTrue}
use Rattle.rfb_server.proofs.ClaimLemmas.{copy_claimed}
use Rattle.rfb_server.proofs.ChainLemmas.{copied_on_claimed}
use Rattle.rfb_server.proofs.session.Session.claim_of.Goals as goal

pub returns-in-Some-copied_on : goal.returns-in-Some-copied_on
returns-in-Some-copied_on c = λ before after follows is claim this.
    let s = c.args.self.now in
    let same : c.in-Some-copied_on.next ≡ claim = cc in
    let size = c.pixels-pixels.ensures in
    let to = c.holds.ensures.0 c.if-not-holds.false in
    let from = c.holds-else-not-holds.ensures.0 c.if-not-holds-2.false in
    subst (λ (k : Claim). IsTrue after s.known s.format k) same
    (copied_on_claimed s before after c.args.copy c.in-Some.claim c.in-Some-copied_on.next follows is
    (rw (← size.columns) to.0, rw (← size.rows) to.1) (rw (← size.columns) from.0, rw (← size.rows) from.1)
    (follows.claimed c.in-Some.claim c.in-Some.is) (c.in-Some-copied_on.ensures c.in-Some-copied_on.next refl))

pub returns : goal.returns
returns c = λ before after follows is claim this.
    let s = c.args.self.now in
    let same : c.of_copy.result ≡ claim = cc in
    let size = c.pixels-pixels.ensures in
    let to = c.holds.ensures.0 c.if-not-holds.false in
    let from = c.holds-else-not-holds.ensures.0 c.if-not-holds-2.false in
    subst (λ (k : Claim). IsTrue after s.known s.format k) same
    (copy_claimed s before after c.args.copy c.of_copy.result follows is
    (rw (← size.columns) to.0, rw (← size.rows) to.1) (rw (← size.columns) from.0, rw (← size.rows) from.1)
    c.of_copy.ensures.copy c.of_copy.ensures.unmarked)
