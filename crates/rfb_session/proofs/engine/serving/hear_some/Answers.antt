use Rattle.std.proofs.lemmas.Result.{err_from_is_err_and}
use Rattle.rfb_session.specs.Wire.{by_steps}
use Rattle.rfb_session.proofs.WireLemmas.{steps_join}
use Rattle.rfb_session.proofs.ServeLemmas.{hears_call, call_cut, call_ends}
use Rattle.rfb_session.proofs.engine.serving.hear_some.Goals as goal

pub returns-clause-answered : goal.returns-clause-answered
returns-clause-answered g c =
    hears_call (by_steps g.W.Wire.steps) (steps_join g.W.Wire.steps) c.args.server.now
    c.feed.new.self c.args.bytes.now c.in_ok-fed.fed.used c.in_ok-fed.fed.event c.args.wire.now
    c.send_over.new.wire c.server_reply.result.now c.in_ok-fed.ensures.fed c.server_reply.ensures
    c.in_ok-send_over.ensures.done

pub returns-in_err-send_over-clause-stopped : goal.returns-in_err-send_over-clause-stopped
returns-in_err-send_over-clause-stopped g c =
    let p = err_from_is_err_and c.from_residual-in_err-send_over.result c.from_residual-in_err-send_over.ensures.1 in
    rw (p.1, p.2) ((
      c.in_err-send_over.ensures.one_failed,
      call_cut (by_steps g.W.Wire.steps) (steps_join g.W.Wire.steps) c.args.server.now
          c.feed.new.self c.args.bytes.now c.in_ok-fed.fed.used c.in_ok-fed.fed.event c.args.wire.now
          c.send_over.new.wire c.server_reply.result.now c.in_ok-fed.ensures.fed c.server_reply.ensures
          c.in_err-send_over.ensures.stopped,
    ))

pub returns-in_err-fed-clause-stopped : goal.returns-in_err-fed-clause-stopped
returns-in_err-fed-clause-stopped g c =
    let p = err_from_is_err_and c.from_residual.result c.from_residual.ensures.1 in
    rw (p.1, p.2) (call_ends (by_steps g.W.Wire.steps) (steps_join g.W.Wire.steps) c.args.server.now
    c.feed.new.self c.args.bytes.now c.args.wire.now c.in_err-fed.field-0.0 c.in_err-fed.ensures.fails
    c.in_err-fed.ensures.fault c.in_err-fed.ensures.memory c.in_err-fed.ensures.kept)
