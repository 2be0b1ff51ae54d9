use Rattle.std.proofs.Common.{Some, rules}
use Rattle.rfb_session.proofs.WrittenLaws.{empty_rest}
use Rattle.rfb.proofs.LoopbackLemmas.{call_fed, call_fed_until}
use Rattle.rfb.proofs.DeliveryLemmas.{fed_more, fed_none, on_ok_all, takes_all, takes_until, viewer_received}
use Rattle.rfb.proofs.loopback.arriving.watch.Goals as goal

pub loop-rest-init : goal.loop-rest-init
loop-rest-init c = fed_none viewer_received c.args.viewer.now c.args.bytes.now c.args.to_server.now.items

pub loop-rest-preserved : goal.loop-rest-preserved
loop-rest-preserved c =
    let l = c.loop-rest in
    fed_more viewer_received {a = c.in-Ok.fed} c.in-Ok.fed.used l.invariant
    (call_fed l.viewer c.feed.new.self l.rest.now c.in-Ok.fed.used c.in-Ok.fed.event
    (Some l.to_server.items) (Some c.write_all.new.self.items) c.viewer_reply.result.now
    c.in-Ok.ensures.fed c.viewer_reply.ensures c.in_ok-write_all-in-Ok.ensures.bytes)
    c.in-Ok.ensures.failed

pub loop-rest-preserved-in_ok-write_all-in-Ok : goal.loop-rest-preserved-in_ok-write_all-in-Ok
loop-rest-preserved-in_ok-write_all-in-Ok c =
    let l = c.loop-rest in
    fed_more viewer_received {a = c.in-Ok.fed} c.in-Ok.fed.used l.invariant
    (call_fed l.viewer c.feed.new.self l.rest.now c.in-Ok.fed.used c.in-Ok.fed.event
    (Some l.to_server.items) (Some c.write_all.new.self.items) c.viewer_reply.result.now
    c.in-Ok.ensures.fed c.viewer_reply.ensures c.in_ok-write_all-in-Ok.ensures.bytes)
    c.in-Ok.ensures.failed

pub loop-rest-preserved-in_ok-write_all-in-Ok-2 : goal.loop-rest-preserved-in_ok-write_all-in-Ok-2
loop-rest-preserved-in_ok-write_all-in-Ok-2 c =
    let l = c.loop-rest in
    fed_more viewer_received {a = c.in-Ok.fed} c.in-Ok.fed.used l.invariant
    (call_fed l.viewer c.feed.new.self l.rest.now c.in-Ok.fed.used c.in-Ok.fed.event
    (Some l.to_server.items) (Some c.write_all.new.self.items) c.viewer_reply.result.now
    c.in-Ok.ensures.fed c.viewer_reply.ensures c.in_ok-write_all-in-Ok.ensures.bytes)
    c.in-Ok.ensures.failed

pub loop-rest-preserved-in_ok-write_all-in-Ok-3 : goal.loop-rest-preserved-in_ok-write_all-in-Ok-3
loop-rest-preserved-in_ok-write_all-in-Ok-3 c =
    let l = c.loop-rest in
    fed_more viewer_received {a = c.in-Ok.fed} c.in-Ok.fed.used l.invariant
    (call_fed l.viewer c.feed.new.self l.rest.now c.in-Ok.fed.used c.in-Ok.fed.event
    (Some l.to_server.items) (Some c.write_all.new.self.items) c.viewer_reply.result.now
    c.in-Ok.ensures.fed c.viewer_reply.ensures c.in_ok-write_all-in-Ok.ensures.bytes)
    c.in-Ok.ensures.failed

pub returns : goal.returns
returns c =
    let l = c.loop-rest in takes_all viewer_received l.invariant (empty_rest l.rest.now (search rules))

pub returns-in-Err : goal.returns-in-Err
returns-in-Err c =
    let l = c.loop-rest in
    on_ok_all c.end_of_viewer.result _ _ c.end_of_viewer.ensures
    (takes_until viewer_received l.invariant
    (call_fed_until l.viewer c.feed.new.self l.rest.now (Some l.to_server.items) c.in-Err.fault c.in-Err.ensures.fails
    c.in-Err.ensures.fault c.in-Err.ensures.memory c.in-Err.ensures.picture c.in-Err.ensures.reason)
    c.in-Err.ensures.failed)
