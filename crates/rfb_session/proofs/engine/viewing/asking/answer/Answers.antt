use Rattle.std.proofs.Common.{◌≡◌, ◌<◌, ◌-◌, sym, arith, rules, refl, inl, inr}
use Rattle.std.proofs.lemmas.Result.{err_from_is_err_and}
use Rattle.rfb_viewer.specs.Told.{seen}
use Rattle.rfb_session.specs.Wire.{by_steps}
use Rattle.rfb_session.proofs.ViewLemmas.{answer_ends, answer_rests, answer_asks, answer_cut, request_cut}
use Rattle.rfb_session.proofs.WireLemmas.{steps_join}
use Rattle.rfb_session.proofs.engine.viewing.asking.answer.Goals as goal

pub returns-in_err-send_over-clause-stopped : goal.returns-in_err-send_over-clause-stopped
returns-in_err-send_over-clause-stopped g c =
    let p = err_from_is_err_and c.from_residual.result c.from_residual.ensures.1 in
    rw (p.1) (answer_cut (by_steps g.W.Wire.steps) (steps_join g.W.Wire.steps) c.args.viewer.now
    (seen c.args.event.now) c.args.wire.now c.send_over.new.wire c.viewer_reply.result.now
    c.viewer_reply.ensures c.in_err-send_over.ensures.stopped)

pub returns-then-fewer-eq0-clause-answered : goal.returns-then-fewer-eq0-clause-answered
returns-then-fewer-eq0-clause-answered g c =
    let none : c.args.left - c.ended.result ≡ 0 = search rules in
    answer_ends (by_steps g.W.Wire.steps) (steps_join g.W.Wire.steps) c.args.viewer.now
    (seen c.args.event.now) c.args.left c.args.wire.now c.send_over.new.wire
    c.viewer_reply.result.now c.viewer_reply.ensures c.in_ok-send_over.ensures.done c.requires.wanted
    (omega (arith, none, c.ended.ensures.told, c.ended.ensures.few, c.requires.wanted))

pub returns-in_ok-ask-in-Some-clause-answered : goal.returns-in_ok-ask-in-Some-clause-answered
returns-in_ok-ask-in-Some-clause-answered g c =
    let some : 0 < c.args.left - c.ended.result = search rules in
    answer_asks (by_steps g.W.Wire.steps) (steps_join g.W.Wire.steps) c.args.viewer.now
    c.ask.new.viewer (seen c.args.event.now) c.in-Some.incremental c.args.left
    (c.args.left - c.ended.result) c.args.wire.now c.send_over.new.wire c.ask.new.wire
    c.viewer_reply.result.now c.viewer_reply.ensures c.in_ok-send_over.ensures.done
    (sym c.in-Some.ensures) c.in_ok-ask-in-Some.ensures.asked some
    (omega (arith, c.ended.ensures.told, c.ended.ensures.few, c.requires.wanted))

pub returns-in_err-ask-in-Some-clause-stopped : goal.returns-in_err-ask-in-Some-clause-stopped
returns-in_err-ask-in-Some-clause-stopped g c =
    let p = err_from_is_err_and c.from_residual-in_err-ask-in-Some.result
    c.from_residual-in_err-ask-in-Some.ensures.1 in
    rw (p.1) (request_cut (by_steps g.W.Wire.steps) (steps_join g.W.Wire.steps) c.args.viewer.now
    c.ask.new.viewer (seen c.args.event.now) c.in-Some.incremental c.args.wire.now
    c.send_over.new.wire c.ask.new.wire c.viewer_reply.result.now c.viewer_reply.ensures
    c.in_ok-send_over.ensures.done (sym c.in-Some.ensures) c.in_err-ask-in-Some.ensures.stopped)

pub returns-in-None-clause-answered : goal.returns-in-None-clause-answered
returns-in-None-clause-answered g c =
    let some : 0 < c.args.left - c.ended.result = search rules in
    answer_rests (by_steps g.W.Wire.steps) (steps_join g.W.Wire.steps) c.args.viewer.now
    (seen c.args.event.now) c.args.left (c.args.left - c.ended.result) c.args.wire.now
    c.send_over.new.wire c.viewer_reply.result.now c.viewer_reply.ensures c.in_ok-send_over.ensures.done
    (sym c.in-None.ensures) some
    (omega (arith, c.ended.ensures.told, c.ended.ensures.few, c.requires.wanted))

pub returns-in_err-send_over-clause-asked : goal.returns-in_err-send_over-clause-asked
returns-in_err-send_over-clause-asked g c = inl refl

pub returns-then-fewer-eq0-clause-asked : goal.returns-then-fewer-eq0-clause-asked
returns-then-fewer-eq0-clause-asked g c = inl refl

pub returns-in-None-clause-asked : goal.returns-in-None-clause-asked
returns-in-None-clause-asked g c = inl refl

pub returns-in_ok-ask-in-Some-clause-asked : goal.returns-in_ok-ask-in-Some-clause-asked
returns-in_ok-ask-in-Some-clause-asked g c =
    let asked = c.in_ok-ask-in-Some.ensures.asked in inr (c.in-Some.incremental, asked.sent, asked.asks)

pub returns-in_err-ask-in-Some-clause-asked : goal.returns-in_err-ask-in-Some-clause-asked
returns-in_err-ask-in-Some-clause-asked g c =
    let asked = c.in_err-ask-in-Some.ensures.stopped in inr (c.in-Some.incremental, asked.sent, asked.asks)
