use Rattle.std.proofs.Common.{◌≡◌, ℕ, ◌-◌, ◌≤◌, ◌<◌, inl, refl, ◌∙◌, subst, arith}
use Rattle.rfb_session.specs.ends.LinkDelivery.{HasWatched}
use Rattle.rfb_session.proofs.LeavingLemmas.{all_gone, more_gone, none_gone, to_viewer}
use Rattle.rfb_session.proofs.ReachingLemmas.{watched_none, watched_goes_on, watched_done}
use Rattle.rfb_session.proofs.link.Link.deliver_to_viewer.Goals as goal

pub loop-left-init : goal.loop-left-init
loop-left-init c =
    let none : 0 ≡ c.args.count - c.args.count = omega arith in
    record {
      leaves = none_gone to_viewer c.args.self.now c.args.count c.requires;
      reached = inl (subst (λ (k : ℕ). HasWatched c.args.self.now k c.args.self.now) none
          (watched_none c.args.self.now));
      session = refl;
    }

pub loop-left-preserved : goal.loop-left-preserved
loop-left-preserved c =
    let was = c.loop-left.invariant in
    let part : (0 < c.in_ok-left.field-0) × (c.in_ok-left.field-0 ≤ c.loop-left.left) = c.in_ok-left.ensures.used in
    record {
      leaves = more_gone to_viewer was.leaves part.1 c.in_ok-left.ensures.left c.in_ok-left.ensures.delivered
          c.in_ok-left.ensures.lost;
      reached = watched_goes_on c.args.self.now c.loop-left.self c.feed_viewer.new.self c.in_ok-left.field-0
          c.loop-left.left c.args.count part.0 part.1 was.leaves.some was.reached c.in_ok-left.ensures.reached;
      session = c.feed_viewer.ensures.session ∙ was.session;
    }

pub returns : goal.returns
returns c =
    let all = all_gone to_viewer c.loop-left.invariant.leaves (omega arith) in
    record {
      reached = watched_done c.args.self.now c.loop-left.self c.loop-left.left c.args.count (omega arith)
          c.loop-left.invariant.reached;
      delivered = all.0;
      lost = all.1;
      dropped = λ fault is other. refl;
      none = λ is. refl;
      session = c.loop-left.invariant.session;
    }
