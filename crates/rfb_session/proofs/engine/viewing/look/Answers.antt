use Rattle.std.proofs.Common.{◌≡◌, ◌<◌, ◌+◌, ◌∙◌, ℕ, [], Ok, Err, refl, arith, rules, ap}
use Rattle.std.proofs.lemmas.Result.{err_from_is_err_and}
use Rattle.rfb_viewer.specs.declared.viewer.Viewer.{Viewer}
use Rattle.rfb_viewer.specs.Model.{fault_of}
use Rattle.rfb_session.specs.declared.engine.fault.EngineFault.TheVariants.{Viewer as ViewerEnded}
use Rattle.rfb_session.specs.Wire.{by_steps}
use Rattle.rfb_session.proofs.FailedLemmas.{fails_still, no_answer}
use Rattle.rfb_session.specs.Watcher.{EndsLooking}
use Rattle.rfb_session.proofs.EngineRunLemmas.{only_one}
use Rattle.rfb_session.proofs.LookLemmas.{looking_none, looking_more, looking_stops, more_counted, still_looked}
use Rattle.rfb_session.proofs.WatcherLemmas.{heard_ends, heard_more, heard_none, heard_within}
use Rattle.rfb_session.proofs.WrittenLemmas.{empty_rest}
use Rattle.rfb_session.proofs.WireLemmas.{steps_join}
use Rattle.rfb_session.proofs.engine.viewing.look.Goals as goal

pub loop-left-init : goal.loop-left-init
loop-left-init g c = record {
  looks = looking_none (by_steps g.W.Wire.steps) (steps_join g.W.Wire.steps) c.args.viewer.now
      c.args.bytes.now c.args.before c.args.wire.now (g.K.Sink.written c.args.kept.now)
      c.requires.wanted;
  none_unwritten = refl;
  none_unkept = refl;
  same_reference = refl;
  failed = λ f is. (refl, refl, refl);
  heard = heard_none g.A.Watcher.steps (λ (n : ℕ). c.args.before ≡ n + c.args.before) c.args.viewer.now
      c.args.watcher.now c.args.bytes.now (only_one c.args.before);
}

pub loop-left-preserved : goal.loop-left-preserved
loop-left-preserved g c =
    let l = c.loop-left in
    let some : 0 < l.left = search rules in
    record {
      looks = looking_more (by_steps g.W.Wire.steps) (steps_join g.W.Wire.steps)
          c.args.viewer.now c.args.bytes.now l.rest.now c.args.before l.left c.in_ok-used.fewer
          c.args.wire.now l.wire c.look_once.new.wire (g.K.Sink.written c.args.kept.now)
          (g.K.Sink.written l.kept) (g.K.Sink.written c.look_once.new.kept) l.viewer
          c.in_ok-used.used c.look_once.new.viewer l.invariant.looks some c.in_ok-used.ensures.looked;
      none_unwritten = c.in_ok-used.ensures.none_failed.0 ∙ l.invariant.none_unwritten;
      none_unkept = c.in_ok-used.ensures.none_failed.1 ∙ l.invariant.none_unkept;
      same_reference = c.look_once.ensures.same_reference ∙ l.invariant.same_reference;
      failed = λ f is.
          let again = c.in_ok-used.ensures.failed f
          (ap (λ (v : Viewer). fault_of v) (l.invariant.failed f is).2 ∙ is) in
          absurd (no_answer (c.in_ok-used.used, c.in_ok-used.fewer) (ViewerEnded f) again.0);
      heard = heard_more g.A.Watcher.steps (λ (n : ℕ). c.args.before ≡ n + l.left)
          (λ (n : ℕ). c.args.before ≡ n + c.in_ok-used.fewer) c.args.viewer.now c.args.watcher.now
          c.args.bytes.now l.rest.now l.viewer l.watcher c.in_ok-used.used c.in_ok-used.ensures.heard.0
          c.look_once.new.viewer c.look_once.new.watcher l.invariant.heard c.in_ok-used.ensures.heard.2
          (λ n was. more_counted c.args.before n l.left c.in_ok-used.ensures.heard.0 c.in_ok-used.fewer was
          c.in_ok-used.ensures.heard.1);
    }

pub returns-in_err-used-clause-stopped : goal.returns-in_err-used-clause-stopped
returns-in_err-used-clause-stopped g c =
    let p = err_from_is_err_and c.from_residual.result c.from_residual.ensures.1 in
    rw (p.1, p.2) (let l = c.loop-left in
    let some : 0 < l.left = search rules in
    looking_stops (by_steps g.W.Wire.steps) (steps_join g.W.Wire.steps) c.args.viewer.now
    c.args.bytes.now l.rest.now c.args.before l.left c.args.wire.now l.wire c.look_once.new.wire
    (g.K.Sink.written c.args.kept.now) (g.K.Sink.written l.kept)
    (g.K.Sink.written c.look_once.new.kept) l.viewer
    ((g.W.Wire.known c.args.wire.now).failed_writes + g.K.Sink.failed c.args.kept.now)
    ((g.W.Wire.known l.wire).failed_writes + g.K.Sink.failed l.kept)
    ((g.W.Wire.known c.look_once.new.wire).failed_writes + g.K.Sink.failed c.look_once.new.kept)
    c.in_err-used.field-0.0 c.look_once.new.viewer l.invariant.looks some
    (omega (arith, l.invariant.none_unwritten, l.invariant.none_unkept))
    c.in_err-used.ensures.stopped)

pub returns-in_err-used-clause-failed : goal.returns-in_err-used-clause-failed
returns-in_err-used-clause-failed g c =
    let p = err_from_is_err_and c.from_residual.result c.from_residual.ensures.1 in
    rw (p.1, p.2) (λ some f is. fails_still (λ (v : Viewer). fault_of v) (λ f. ViewerEnded f) f
    c.in_err-used.field-0.0 (c.loop-left.invariant.failed f is).2 is c.in_err-used.ensures.failed)

pub returns-in_err-used-clause-heard : goal.returns-in_err-used-clause-heard
returns-in_err-used-clause-heard g c =
    let p = err_from_is_err_and c.from_residual.result c.from_residual.ensures.1 in
    rw (p.1, p.2) (let l = c.loop-left in
    heard_within g.A.Watcher.steps (λ (n : ℕ). c.args.before ≡ n + l.left)
    (EndsLooking l.left (Err c.in_err-used.field-0.0) c.look_once.new.viewer)
    (EndsLooking c.args.before (Err c.in_err-used.field-0.0) c.look_once.new.viewer) c.args.viewer.now
    c.args.watcher.now c.args.bytes.now l.rest.now l.viewer l.watcher c.look_once.new.watcher
    l.invariant.heard c.in_err-used.ensures.heard_so_far
    (λ m n later last was ends. still_looked l.left c.args.before n (m + n) later last c.in_err-used.field-0.0
    c.look_once.new.viewer ends))

-- no byte is left
pub returns-else-not-is_empty-clause-heard : goal.returns-else-not-is_empty-clause-heard
returns-else-not-is_empty-clause-heard g c =
    let l = c.loop-left in
    let none : l.rest.now ≡ [] = empty_rest l.rest.now (search rules) in
    heard_ends g.A.Watcher.steps (λ (n : ℕ). c.args.before ≡ n + l.left)
    (EndsLooking c.args.before (Ok l.left) l.viewer) c.args.viewer.now c.args.watcher.now
    c.args.bytes.now l.rest.now l.viewer l.watcher l.invariant.heard (λ n was. (was, refl, (λ some. none)))

-- no update is looked for
pub returns-after-loop-left-clause-heard : goal.returns-after-loop-left-clause-heard
returns-after-loop-left-clause-heard g c =
    let l = c.loop-left in
    let done : l.left ≡ 0 = search rules in
    heard_ends g.A.Watcher.steps (λ (n : ℕ). c.args.before ≡ n + l.left)
    (EndsLooking c.args.before (Ok l.left) l.viewer) c.args.viewer.now c.args.watcher.now
    c.args.bytes.now l.rest.now l.viewer l.watcher l.invariant.heard
    (λ n was. (was, refl, (λ some. absurd (omega (arith, some, done)))))
