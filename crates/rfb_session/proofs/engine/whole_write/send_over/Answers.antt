use Rattle.std.proofs.Common.{◌+◌, ◌∙◌, refl, rules, take, ap, ℕ, arith}
use Rattle.rfb_session.specs.Wire.{Went, Refused}
use Rattle.rfb_session.proofs.WireLemmas.{nothing_sent, part_sent, some_sent}
use Rattle.rfb_session.proofs.engine.whole_write.send_over.Goals as goal

pub loop-rest-init : goal.loop-rest-init
loop-rest-init g c = record {
  sent = nothing_sent g.W.Wire.steps c.args.wire.now c.args.bytes.now;
  none_failed = refl;
}

pub loop-rest-preserved : goal.loop-rest-preserved
loop-rest-preserved g c =
    let l = c.loop-rest in
    let step = c.in-Ok.ensures.stepped.0 (search rules) in
    record {
      sent = part_sent g.W.Wire.steps c.args.wire.now l.wire c.write.new.self c.args.bytes.now l.rest.now
          c.in-Ok.sent l.invariant.sent step;
      none_failed = (g.met.W.Wire.tells l.wire c.write.new.self (Went (take c.in-Ok.sent l.rest.now)) step).2 ∙
          l.invariant.none_failed;
    }

pub returns-in_default-clause-stopped : goal.returns-in_default-clause-stopped
returns-in_default-clause-stopped g c =
    let l = c.loop-rest in
    some_sent g.W.Wire.steps c.args.wire.now l.wire c.write.new.self c.args.bytes.now l.rest.now
    l.invariant.sent (c.in-Ok.ensures.stepped.1 (omega (arith, c.if-sent-gt0.false)))

pub returns-in_default-clause-one_failed : goal.returns-in_default-clause-one_failed
returns-in_default-clause-one_failed g c =
    let l = c.loop-rest in
    let step = c.in-Ok.ensures.stepped.1 (omega (arith, c.if-sent-gt0.false)) in
    (g.met.W.Wire.tells l.wire c.write.new.self Refused step).2
    ∙ ap (λ (n : ℕ). n + 1) l.invariant.none_failed
