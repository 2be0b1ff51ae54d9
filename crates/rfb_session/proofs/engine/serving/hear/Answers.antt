use Rattle.std.proofs.Common.{◌≡◌, ◌∙◌, List, ℕ, ap, arith, length, refl, rules}
use Rattle.std.proofs.lemmas.Result.{err_from_is_err_and}
use Rattle.rfb_server.specs.declared.server.Server.{Server}
use Rattle.rfb_server.specs.Model.{fault_of}
use Rattle.rfb_session.specs.declared.engine.fault.EngineFault.TheVariants.{Server as ServerEnded}
use Rattle.rfb_session.specs.Wire.{by_steps}
use Rattle.rfb_session.proofs.FailedLemmas.{fails_still, no_answer}
use Rattle.rfb_session.proofs.WrittenLemmas.{empty_rest}
use Rattle.rfb_session.proofs.WireLemmas.{steps_join}
use Rattle.rfb_session.proofs.ServeLemmas.{hears_no_byte, hears_more, hears_whole, hears_until}
use Rattle.rfb_session.proofs.engine.serving.hear.Goals as goal

pub loop-rest-init : goal.loop-rest-init
loop-rest-init g c = record {
  heard = hears_no_byte (by_steps g.W.Wire.steps) (steps_join g.W.Wire.steps) c.args.server.now
      c.args.bytes.now c.args.wire.now;
  none_failed = refl;
  failed = λ f is. (refl, refl);
}

pub loop-rest-preserved : goal.loop-rest-preserved
loop-rest-preserved g c =
    let l = c.loop-rest in
    record {
      heard = hears_more (by_steps g.W.Wire.steps) (steps_join g.W.Wire.steps) c.args.server.now
          c.args.bytes.now l.rest.now c.args.wire.now l.wire c.hear_some.new.wire l.server
          c.in_ok-used.used c.hear_some.new.server l.invariant.heard c.in_ok-used.ensures.answered;
      none_failed = c.in_ok-used.ensures.none_failed ∙ l.invariant.none_failed;
      failed = λ f is.
          let again = c.in_ok-used.ensures.failed f
          (ap (λ (v : Server). fault_of v) (l.invariant.failed f is).1 ∙ is) in
          absurd (no_answer c.in_ok-used.used (ServerEnded f) again.0);
    }

pub returns-clause-answered : goal.returns-clause-answered
returns-clause-answered g c =
    let l = c.loop-rest in
    hears_whole (by_steps g.W.Wire.steps) (steps_join g.W.Wire.steps) c.args.server.now
    c.args.bytes.now l.rest.now c.args.wire.now l.wire l.server l.invariant.heard
    (empty_rest l.rest.now (search rules))

pub returns-in_err-used-clause-stopped : goal.returns-in_err-used-clause-stopped
returns-in_err-used-clause-stopped g c =
    let p = err_from_is_err_and c.from_residual.result c.from_residual.ensures.1 in
    rw (p.1, p.2) (let l = c.loop-rest in
    hears_until (by_steps g.W.Wire.steps) (steps_join g.W.Wire.steps) c.args.server.now
    c.args.bytes.now l.rest.now c.args.wire.now l.wire c.hear_some.new.wire l.server
    (g.W.Wire.known c.args.wire.now).failed_writes (g.W.Wire.known l.wire).failed_writes
    (g.W.Wire.known c.hear_some.new.wire).failed_writes c.in_err-used.field-0.0 c.hear_some.new.server
    l.invariant.heard l.invariant.none_failed c.in_err-used.ensures.stopped)

pub returns-clause-failed : goal.returns-clause-failed
returns-clause-failed g c = λ some f is.
    let l = c.loop-rest in
    let none : length l.rest.now ≡ 0 = search rules in
    let all = (l.invariant.failed f is).0 in
    absurd (omega (arith, some, none, ap (λ (xs : List ℕ). length xs) all))

pub returns-in_err-used-clause-failed : goal.returns-in_err-used-clause-failed
returns-in_err-used-clause-failed g c =
    let p = err_from_is_err_and c.from_residual.result c.from_residual.ensures.1 in
    rw (p.1, p.2) (λ some f is. fails_still (λ (v : Server). fault_of v) (λ f. ServerEnded f) f
    c.in_err-used.field-0.0 (c.loop-rest.invariant.failed f is).1 is c.in_err-used.ensures.failed)
