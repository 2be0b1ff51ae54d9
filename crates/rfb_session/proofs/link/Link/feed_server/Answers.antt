use Rattle.std.proofs.Common.{ℕ, List, ◌++◌, inl, inr, ap, ◌∙◌, refl}
use Rattle.rfb_server.specs.Told.{seen}
use Rattle.rfb_session.proofs.DeliveringLemmas.{server_delivers, server_never}
use Rattle.rfb_session.proofs.ReachingLemmas.{heard_once, heard_last, there}
use Rattle.rfb_session.proofs.ShareSeatLemmas.{not_failed}
use Rattle.rfb_session.proofs.link.Link.feed_server.Goals as goal

pub returns-in_ok-send-in-Ok-clause-delivered : goal.returns-in_ok-send-in-Ok-clause-delivered
returns-in_ok-send-in-Ok-clause-delivered c =
    server_delivers c.args.self.now _ c.first.result.now c.args.count c.in-Ok.fed.used
    (seen c.in-Ok.fed.event) c.requires.within c.first.ensures c.in-Ok.ensures.used
    c.in-Ok.ensures.fed refl c.arrive.ensures
    (c.in_ok-send-in-Ok.ensures.sent
    ∙ ap (λ (b : List ℕ). c.args.self.now.to_viewer ++ b) c.server_reply.ensures) refl

pub returns-in_ok-send-in-Ok-clause-reached : goal.returns-in_ok-send-in-Ok-clause-reached
returns-in_ok-send-in-Ok-clause-reached c =
    inl (heard_once c.args.self.now _ c.first.result.now c.args.count c.in-Ok.fed.used c.asks_sole.result
    (seen c.in-Ok.fed.event) (not_failed _ c.args.self.now.session c.feed.new.self c.feed.result c.in-Ok.fed
    c.feed.ensures.failed c.in-Ok.is) c.requires.within c.first.ensures c.in-Ok.ensures.used
    c.in-Ok.ensures.fed refl c.arrive.ensures
    (c.in_ok-send-in-Ok.ensures.sent
    ∙ ap (λ (b : List ℕ). c.args.self.now.to_viewer ++ b) c.server_reply.ensures) refl c.asks_sole.ensures)

pub returns-else-server_wants_memory-clause-delivered :
    goal.returns-else-server_wants_memory-clause-delivered
returns-else-server_wants_memory-clause-delivered c =
    server_never c.args.self.now _ c.first.result.now c.args.count c.in-Err.fault c.first.ensures
    (c.in-Err.ensures.fault (c.server_wants_memory.ensures.other c.if-server_wants_memory.false))

pub returns-else-server_wants_memory-clause-reached :
    goal.returns-else-server_wants_memory-clause-reached
returns-else-server_wants_memory-clause-reached c =
    inr (
      refl,
      heard_last c.args.self.now _ c.first.result.now c.args.count c.first.ensures
          (record {
            fault = c.in-Err.fault;
            fails = c.in-Err.ensures.fails;
            has_memory = c.server_wants_memory.ensures.other c.if-server_wants_memory.false;
            ends = c.in-Err.ensures.kept;
            failed = λ some. let was = there _ some in (c.feed.ensures.failed was.0 was.1).1;
          })
          refl c.arrive-in-Err.ensures refl refl,
    )

pub returns-else-server_wants_memory-clause-lost : goal.returns-else-server_wants_memory-clause-lost
returns-else-server_wants_memory-clause-lost c = λ fault is. record {
  to_server = c.arrive-in-Err.ensures;
  beside = record {
    session = (c.feed.ensures.failed fault is).1;
    viewer = refl;
    to_viewer = refl;
    latest = refl;
  };
}
