use Rattle.std.proofs.Common.{◌∙◌}
use Rattle.rfb_session.proofs.HubJoinLemmas.{fresh_seat}
use Rattle.rfb_session.proofs.hub.Hub.seat_for.Goals as goal

pub returns : goal.returns
returns c =
    fresh_seat c.args.self.now c.args.setup.now c.in_ok-session.session c.of-viewer.result
    c.in_ok-link.link c.new-3.result c.width.result c.height.result c.as_slice.result.now
    c.width.ensures.value c.height.ensures c.as_slice.ensures.value
    c.width.ensures.whole c.in_ok-session.ensures.stands c.in_ok-session.ensures.follows
    (rw c.setup_of.ensures at c.of-viewer.ensures.stands)
    c.in_ok-link.ensures.stands c.in_ok-link.ensures.session c.in_ok-session.ensures.hints
    (c.new-3.ensures.setup_is ∙ c.setup_of-2.ensures) c.new-3.ensures.link_is c.new-3.ensures.ours
