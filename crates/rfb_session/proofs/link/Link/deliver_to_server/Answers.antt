use Rattle.std.proofs.Common.{◌≡◌, ℕ, ◌-◌, ◌≤◌, ◌<◌, false, inl, refl, ◌∙◌, subst, arith}
use Rattle.rfb_session.specs.ends.LinkDelivery.{HasHeard}
use Rattle.rfb_session.proofs.LeavingLemmas.{all_gone, more_gone, none_gone, to_session}
use Rattle.rfb_session.proofs.ReachingLemmas.{heard_none, heard_goes_on, heard_done}
use Rattle.rfb_session.proofs.link.Link.deliver_to_server.Goals as goal

pub loop-left-init : goal.loop-left-init
loop-left-init c =
    let none : 0 ≡ c.args.count - c.args.count = omega arith in
    record {
      leaves = none_gone to_session c.args.self.now c.args.count c.requires;
      reached = inl (subst (λ (k : ℕ). HasHeard c.args.self.now k false c.args.self.now) none
          (heard_none c.args.self.now));
      follows = λ screen follows. follows;
      hints = refl;
    }

pub loop-left-preserved : goal.loop-left-preserved
loop-left-preserved c =
    let was = c.loop-left.invariant in
    let part : (0 < c.in_ok-used.used) × (c.in_ok-used.used ≤ c.loop-left.left) = c.in_ok-used.ensures.used in
    record {
      leaves = more_gone to_session was.leaves part.1 c.in_ok-used.ensures.left c.in_ok-used.ensures.delivered
          c.in_ok-used.ensures.lost;
      reached = rw c.either-sole.ensures (heard_goes_on c.args.self.now c.loop-left.self c.feed_server.new.self
          c.in_ok-used.used c.loop-left.left c.args.count c.loop-left.sole c.in_ok-used.asked part.0 part.1
          was.leaves.some was.reached c.in_ok-used.ensures.reached);
      follows = λ screen follows. c.feed_server.ensures.follows screen (was.follows screen follows);
      hints = c.feed_server.ensures.hints ∙ was.hints;
    }

pub returns : goal.returns
returns c =
    let all = all_gone to_session c.loop-left.invariant.leaves (omega arith) in
    record {
      reached = heard_done c.args.self.now c.loop-left.self c.loop-left.left c.args.count c.loop-left.sole
          (omega arith) c.loop-left.invariant.reached;
      delivered = all.0;
      lost = all.1;
      dropped = λ fault is other. refl;
      none = λ is. refl;
      follows = c.loop-left.invariant.follows;
      hints = c.loop-left.invariant.hints;
    }
