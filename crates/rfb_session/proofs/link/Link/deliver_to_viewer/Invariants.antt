use Rattle.std.proofs.Common.{◌-◌, ◌≡◌, ◌⊎◌}
use Rattle.rfb_session.specs.ends.LinkDelivery.{DeliversToViewer, HasWatched, EndsWatching}
use Rattle.rfb_session.specs.LinkModel.{LosesToViewer, session_of_link, to_viewer_on, viewer_fault_of}
use Rattle.rfb_session.proofs.LeavingLemmas.{Leaves}
use Rattle.rfb_session.proofs.link.Link.deliver_to_viewer.Given as goal

abbrev pub invariant-loop-left : goal.invariant-loop-left
invariant-loop-left l = record {
  leaves : Leaves to_viewer_on DeliversToViewer LosesToViewer viewer_fault_of l.fn.self l.count l.left l.self;
  reached : HasWatched l.fn.self (l.count - l.left) l.self ⊎ ((l.left ≡ 0) × EndsWatching l.fn.self l.count l.self);
  session : session_of_link l.self ≡ session_of_link l.fn.self;
}

abbrev pub decreases-loop-left : goal.decreases-loop-left
decreases-loop-left l = l.left
