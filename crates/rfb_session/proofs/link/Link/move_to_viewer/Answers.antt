use Rattle.std.proofs.Common.{ℕ, min, ap, ◌∙◌}
use Rattle.rfb_session.proofs.LeavingLemmas.{arrives, to_viewer}
use Rattle.rfb_session.proofs.ReachingLemmas.{watched_reaches}
use Rattle.rfb_session.proofs.link.Link.move_to_viewer.Goals as goal

pub returns-clause-arrives : goal.returns-clause-arrives
returns-clause-arrives c =
    arrives to_viewer c.args.count c.min-moved.result
    (c.min-moved.ensures ∙ ap (λ (k : ℕ). min k c.args.count) c.len.ensures) c.of_moved.ensures.moved
    c.of_moved.ensures.refused c.of_moved.ensures.composed
    (watched_reaches c.args.self.now c.deliver_to_viewer.new.self c.min-moved.result
    c.in_ok-deliver_to_viewer.ensures.reached) c.in_ok-deliver_to_viewer.ensures.delivered
    c.in_ok-deliver_to_viewer.ensures.lost
