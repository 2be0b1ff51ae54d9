use Rattle.std.proofs.Common.{◌-◌, ◌≡◌, ◌⊎◌}
use Rattle.rfb_server.specs.Hints.{hints_in}
use Rattle.rfb_session.specs.ends.LinkDelivery.{DeliversToServer, HasHeard, EndsHearing}
use Rattle.rfb_session.specs.LinkModel.{LosesToServer, server_fault_of, session_of_link, to_server_on, FollowsStill}
use Rattle.rfb_session.proofs.LeavingLemmas.{Leaves}
use Rattle.rfb_session.proofs.link.Link.deliver_to_server.Given as goal

abbrev pub invariant-loop-left : goal.invariant-loop-left
invariant-loop-left l = record {
  leaves : Leaves to_server_on DeliversToServer LosesToServer server_fault_of l.fn.self l.count l.left l.self;
  reached : HasHeard l.fn.self (l.count - l.left) l.sole l.self
      ⊎ ((l.left ≡ 0) × EndsHearing l.fn.self l.count l.sole l.self);
  follows : FollowsStill l.fn.self l.self;
  hints : hints_in (session_of_link l.self) ≡ hints_in (session_of_link l.fn.self);
}

abbrev pub decreases-loop-left : goal.decreases-loop-left
decreases-loop-left l = l.left
