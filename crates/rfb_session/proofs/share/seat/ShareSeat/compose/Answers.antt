use Rattle.std.proofs.Common.{rules}
use Rattle.rfb_session.specs.declared.share.waiting.Waiting.TheVariants.{Update}
use Rattle.rfb_session.proofs.ShareFitLemmas.{fits_sent, fits_kept}
use Rattle.rfb_session.proofs.share.seat.ShareSeat.compose.Goals as goal

-- there was no memory
pub invariant_of-self : goal.invariant_of-self
invariant_of-self c =
    let s = c.args.self.now in
    record {
      within = s.within;
      few = s.few;
      roomy = fits_kept s.session c.compose.new.self s.waiting s.waiting c.in_err-composed.ensures.same
          (λ point fit. fit) s.roomy;
    }

pub invariant_of-self-then-not-composed-clause-roomy : goal.invariant_of-self-then-not-composed-clause-roomy
invariant_of-self-then-not-composed-clause-roomy c =
    let s = c.args.self.now in
    fits_kept s.session c.compose.new.self s.waiting s.waiting
    (c.in_ok-composed.ensures.idle c.if-not-composed.true).kept (λ point fit. fit) s.roomy

pub invariant_of-self-2 : goal.invariant_of-self-2
invariant_of-self-2 c =
    let s = c.args.self.now in
    record {
      within = search rules;
      few = search rules;
      roomy = fits_sent c.args.screen.now s.session c.compose.new.self s.waiting (Update c.compose.new.out)
          _ _ (c.in_ok-composed.ensures.composed c.if-not-composed.false) (λ point none. none) s.roomy;
    }
