use Rattle.rfb_session.proofs.ShareFitLemmas.{fits_kept}
use Rattle.rfb_session.proofs.share.seat.ShareSeatFollower.notified.Goals as goal

pub invariant_of-self-clause-roomy : goal.invariant_of-self-clause-roomy
invariant_of-self-clause-roomy c =
    let s = c.args.self.now in
    fits_kept s.session _ s.waiting s.waiting c.notified.ensures.kept (λ point fit. fit) s.roomy
