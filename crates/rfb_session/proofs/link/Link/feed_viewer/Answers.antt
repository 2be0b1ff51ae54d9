use Rattle.std.proofs.Common.{ℕ, List, ◌++◌, inl, inr, ap, ◌∙◌, refl}
use Rattle.rfb_viewer.specs.Told.{seen}
use Rattle.rfb_session.proofs.DeliveringLemmas.{viewer_delivers, viewer_never}
use Rattle.rfb_session.proofs.ReachingLemmas.{watched_once, watched_last, there}
use Rattle.rfb_session.proofs.ShareSeatLemmas.{not_failed}
use Rattle.rfb_session.proofs.link.Link.feed_viewer.Goals as goal

pub returns-in_ok-send-in-Ok-clause-delivered : goal.returns-in_ok-send-in-Ok-clause-delivered
returns-in_ok-send-in-Ok-clause-delivered c =
    viewer_delivers c.args.self.now _ c.first.result.now c.args.count c.in-Ok.fed.used
    (seen c.in-Ok.fed.event) c.requires.within c.first.ensures c.in-Ok.ensures.used
    c.in-Ok.ensures.fed refl c.arrive.ensures
    (c.in_ok-send-in-Ok.ensures.sent
    ∙ ap (λ (b : List ℕ). c.args.self.now.to_server ++ b) c.viewer_reply.ensures) refl

pub returns-in_ok-send-in-Ok-clause-reached : goal.returns-in_ok-send-in-Ok-clause-reached
returns-in_ok-send-in-Ok-clause-reached c =
    inl (watched_once c.args.self.now _ c.first.result.now c.args.count c.in-Ok.fed.used
    (seen c.in-Ok.fed.event) (not_failed _ c.args.self.now.viewer c.feed.new.self c.feed.result c.in-Ok.fed
    c.feed.ensures.failed c.in-Ok.is) c.requires.within c.first.ensures c.in-Ok.ensures.used
    c.in-Ok.ensures.fed refl c.arrive.ensures
    (c.in_ok-send-in-Ok.ensures.sent
    ∙ ap (λ (b : List ℕ). c.args.self.now.to_server ++ b) c.viewer_reply.ensures) refl)

pub returns-else-viewer_wants_memory-clause-delivered :
    goal.returns-else-viewer_wants_memory-clause-delivered
returns-else-viewer_wants_memory-clause-delivered c =
    viewer_never c.args.self.now _ c.first.result.now c.args.count c.in-Err.fault c.first.ensures
    (c.in-Err.ensures.fault (c.viewer_wants_memory.ensures.other c.if-viewer_wants_memory.false))

pub returns-else-viewer_wants_memory-clause-reached :
    goal.returns-else-viewer_wants_memory-clause-reached
returns-else-viewer_wants_memory-clause-reached c =
    inr (
      refl,
      watched_last c.args.self.now _ c.first.result.now c.args.count c.first.ensures
          (record {
            fault = c.in-Err.fault;
            has_memory = c.viewer_wants_memory.ensures.other c.if-viewer_wants_memory.false;
            ends = assumption c.in-Err.ensures;
            failed = λ some. let was = there _ some in (c.feed.ensures.failed was.0 was.1).1;
          })
          refl c.arrive-in-Err.ensures refl refl,
    )

pub returns-else-viewer_wants_memory-clause-lost : goal.returns-else-viewer_wants_memory-clause-lost
returns-else-viewer_wants_memory-clause-lost c = λ fault is. record {
  to_viewer = c.arrive-in-Err.ensures;
  to_server = refl;
  viewer = (c.feed.ensures.failed fault is).1;
  session = refl;
  latest = refl;
}
