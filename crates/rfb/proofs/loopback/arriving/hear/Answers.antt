use Rattle.std.proofs.Common.{Some, rules}
use Rattle.rfb_session.proofs.WrittenLaws.{empty_rest}
use Rattle.rfb_session.proofs.ServeLaws.{call_ended, call_heard}
use Rattle.rfb.proofs.DeliveryLemmas.{fed_more, fed_none, on_ok_all, server_received, takes_all, takes_until}
use Rattle.rfb.proofs.loopback.arriving.hear.Goals as goal

pub loop-rest-init : goal.loop-rest-init
loop-rest-init c = fed_none server_received c.args.server.now c.args.bytes.now c.args.to_viewer.now.items

pub loop-rest-preserved : goal.loop-rest-preserved
loop-rest-preserved c =
    let l = c.loop-rest in
    fed_more server_received {a = c.in-Ok.fed} c.in-Ok.fed.used l.invariant
    (call_heard l.server c.feed.new.self l.rest.now c.in-Ok.fed.used c.in-Ok.fed.event
    (Some l.to_viewer.items) (Some c.write_all.new.self.items) c.server_reply.result.now
    c.in-Ok.ensures.fed c.server_reply.ensures c.in_ok-write_all-in-Ok.ensures.bytes)
    c.in-Ok.ensures.failed

pub loop-rest-preserved-in_ok-write_all-in-Ok : goal.loop-rest-preserved-in_ok-write_all-in-Ok
loop-rest-preserved-in_ok-write_all-in-Ok c =
    let l = c.loop-rest in
    fed_more server_received {a = c.in-Ok.fed} c.in-Ok.fed.used l.invariant
    (call_heard l.server c.feed.new.self l.rest.now c.in-Ok.fed.used c.in-Ok.fed.event
    (Some l.to_viewer.items) (Some c.write_all.new.self.items) c.server_reply.result.now
    c.in-Ok.ensures.fed c.server_reply.ensures c.in_ok-write_all-in-Ok.ensures.bytes)
    c.in-Ok.ensures.failed

pub loop-rest-preserved-in_ok-write_all-in-Ok-2 : goal.loop-rest-preserved-in_ok-write_all-in-Ok-2
loop-rest-preserved-in_ok-write_all-in-Ok-2 c =
    let l = c.loop-rest in
    fed_more server_received {a = c.in-Ok.fed} c.in-Ok.fed.used l.invariant
    (call_heard l.server c.feed.new.self l.rest.now c.in-Ok.fed.used c.in-Ok.fed.event
    (Some l.to_viewer.items) (Some c.write_all.new.self.items) c.server_reply.result.now
    c.in-Ok.ensures.fed c.server_reply.ensures c.in_ok-write_all-in-Ok.ensures.bytes)
    c.in-Ok.ensures.failed

pub returns : goal.returns
returns c =
    let l = c.loop-rest in takes_all server_received l.invariant (empty_rest l.rest.now (search rules))

pub returns-in-Err : goal.returns-in-Err
returns-in-Err c =
    let l = c.loop-rest in
    on_ok_all c.end_of_server.result _ _ c.end_of_server.ensures
    (takes_until server_received l.invariant
    (call_ended l.server c.feed.new.self l.rest.now (Some l.to_viewer.items) c.in-Err.fault c.in-Err.ensures.fails
    c.in-Err.ensures.fault c.in-Err.ensures.memory c.in-Err.ensures.kept)
    c.in-Err.ensures.failed)
