use Rattle.std.proofs.Common.{◌+◌, ◌-◌, ◌^◌, min, arith, rules, ◌≡◌, ◌∙◌, ap, List, ℕ, length, refl, [], Ok, Err}
use Rattle.std.proofs.lemmas.Result.{err_from_is_err_and}
use Rattle.rfb_viewer.specs.declared.viewer.Viewer.{Viewer}
use Rattle.rfb_viewer.specs.Model.{fault_of}
use Rattle.rfb_session.specs.FirstUpdates.{AreFewer, AreNoFewer}
use Rattle.rfb_session.specs.Watcher.{EndsRead}
use Rattle.rfb_session.proofs.FailedLemmas.{fails_still, no_answer}
use Rattle.rfb_session.proofs.WrittenLemmas.{empty_rest}
use Rattle.rfb_session.proofs.PlayLemmas.{watched_none, watched_all}
use Rattle.rfb_session.proofs.PlaySomeLemmas.{counted_at_most, few_at_most, few_not_enough, few_not_many}
use Rattle.rfb_session.proofs.PlaySomeLemmas.{counts_on, counts_none, some_enough, some_more, some_until}
use Rattle.rfb_session.proofs.WatcherLemmas.{heard_ends, heard_last, heard_more, heard_none, hears_still}
use Rattle.rfb_session.proofs.engine.playing.feeding.feed_read.Goals as goal

pub loop-rest-init : goal.loop-rest-init
loop-rest-init g c = record {
  watched = watched_none c.args.viewer.now c.args.bytes.now c.args.before (omega arith);
  few = c.requires.some;
  failed = λ f is. (refl, refl);
  heard = heard_none g.A.Watcher.steps (λ (n : ℕ). c.args.before ≡ min (c.args.before + n) (2 ^ 64 - 1))
      c.args.viewer.now c.args.watcher.now c.args.bytes.now (counts_none c.args.before (omega arith));
}

pub returns-then-are_enough-clause-few : goal.returns-then-are_enough-clause-few
returns-then-are_enough-clause-few g c =
    let l = c.loop-rest in
    counted_at_most c.args.enough l.viewer _ l.updates c.in_ok-used.more c.feed_once.new.viewer l.invariant.few
    c.in_ok-used.ensures.counted

pub returns-then-are_enough-clause-watched : goal.returns-then-are_enough-clause-watched
returns-then-are_enough-clause-watched g c = λ few. absurd (few_not_many _ _ few (search rules))

pub returns-then-are_enough-clause-first : goal.returns-then-are_enough-clause-first
returns-then-are_enough-clause-first g c =
    let l = c.loop-rest in
    let many : AreNoFewer c.args.enough c.in_ok-used.more = search rules in
    λ same. some_enough c.args.enough c.args.viewer.now c.args.bytes.now c.args.before l.rest.now l.updates
    l.viewer c.in_ok-used.used c.feed_once.new.viewer c.in_ok-used.more
    l.invariant.watched c.in_ok-used.ensures.counted l.invariant.few many

pub returns-then-are_enough-clause-failed : goal.returns-then-are_enough-clause-failed
returns-then-are_enough-clause-failed g c = λ some f is.
    absurd (no_answer (c.in_ok-used.used, c.in_ok-used.more) f (c.in_ok-used.ensures.failed f
    (ap (λ (v : Viewer). fault_of v) (c.loop-rest.invariant.failed f is).1 ∙ is)).0)

pub returns-then-are_enough-clause-heard : goal.returns-then-are_enough-clause-heard
returns-then-are_enough-clause-heard g c =
    let l = c.loop-rest in
    let many : AreNoFewer c.args.enough c.in_ok-used.more = search rules in
    let one = c.in_ok-used.ensures.heard in
    heard_last g.A.Watcher.steps (λ (n : ℕ). l.updates ≡ min (c.args.before + n) (2 ^ 64 - 1))
    (EndsRead c.args.enough c.args.before (Ok c.in_ok-used.more) c.feed_once.new.viewer) c.args.viewer.now
    c.args.watcher.now c.args.bytes.now l.rest.now l.viewer l.watcher c.in_ok-used.used one.0
    c.feed_once.new.viewer c.feed_once.new.watcher l.invariant.heard one.2
    (λ n was. (
      counts_on c.args.before n one.0 l.updates c.in_ok-used.more was one.1,
      refl,
      (λ few. absurd (few_not_many c.args.enough c.in_ok-used.more few many)),
    ))

pub loop-rest-preserved : goal.loop-rest-preserved
loop-rest-preserved g c =
    let l = c.loop-rest in
    let few : AreFewer c.args.enough c.in_ok-used.more = search rules in
    let one = c.in_ok-used.ensures.heard in
    record {
      watched = some_more c.args.viewer.now c.args.bytes.now c.args.before l.rest.now l.updates
          l.viewer c.in_ok-used.used c.feed_once.new.viewer c.in_ok-used.more l.invariant.watched
          c.in_ok-used.ensures.counted;
      few = few;
      failed = λ f is. absurd (no_answer (c.in_ok-used.used, c.in_ok-used.more) f (c.in_ok-used.ensures.failed f
          (ap (λ (v : Viewer). fault_of v) (l.invariant.failed f is).1 ∙ is)).0);
      heard = heard_more g.A.Watcher.steps (λ (n : ℕ). l.updates ≡ min (c.args.before + n) (2 ^ 64 - 1))
          (λ (n : ℕ). c.in_ok-used.more ≡ min (c.args.before + n) (2 ^ 64 - 1)) c.args.viewer.now
          c.args.watcher.now c.args.bytes.now l.rest.now l.viewer l.watcher c.in_ok-used.used one.0
          c.feed_once.new.viewer c.feed_once.new.watcher l.invariant.heard one.2
          (λ n was. counts_on c.args.before n one.0 l.updates c.in_ok-used.more was one.1);
    }

pub returns-in_err-used-clause-stopped : goal.returns-in_err-used-clause-stopped
returns-in_err-used-clause-stopped g c =
    let p = err_from_is_err_and c.from_residual.result c.from_residual.ensures.1 in
    rw (p.1, p.2) (let l = c.loop-rest in
    some_until c.args.viewer.now c.args.bytes.now c.args.before l.rest.now l.updates l.viewer
    c.in_err-used.field-0.0 c.feed_once.new.viewer l.invariant.watched c.in_err-used.ensures.ends)

pub returns-in_err-used-clause-failed : goal.returns-in_err-used-clause-failed
returns-in_err-used-clause-failed g c =
    let p = err_from_is_err_and c.from_residual.result c.from_residual.ensures.1 in
    rw (p.1, p.2) (λ some f is. fails_still (λ (v : Viewer). fault_of v) (λ f. f) f c.in_err-used.field-0.0
    (c.loop-rest.invariant.failed f is).1 is c.in_err-used.ensures.failed)

pub returns-in_err-used-clause-heard : goal.returns-in_err-used-clause-heard
returns-in_err-used-clause-heard g c =
    let p = err_from_is_err_and c.from_residual.result c.from_residual.ensures.1 in
    rw (p.1, p.2) (let l = c.loop-rest in
    let ends = EndsRead c.args.enough c.args.before (Err c.in_err-used.field-0.0) c.feed_once.new.viewer in
    hears_still g.A.Watcher.steps ends c.args.viewer.now c.args.watcher.now c.args.bytes.now l.watcher
    c.feed_once.new.watcher c.in_err-used.ensures.unheard
    (heard_ends g.A.Watcher.steps (λ (n : ℕ). l.updates ≡ min (c.args.before + n) (2 ^ 64 - 1)) ends
    c.args.viewer.now c.args.watcher.now c.args.bytes.now l.rest.now l.viewer l.watcher
    l.invariant.heard (λ n was. c.in_err-used.ensures.ends)))

pub returns-clause-few : goal.returns-clause-few
returns-clause-few g c = few_at_most c.args.enough c.loop-rest.updates c.loop-rest.invariant.few

pub returns-clause-watched : goal.returns-clause-watched
returns-clause-watched g c =
    let l = c.loop-rest in
    λ few. watched_all c.args.viewer.now c.args.bytes.now c.args.before l.rest.now l.updates l.viewer
    l.invariant.watched (empty_rest l.rest.now (search rules))

pub returns-clause-first : goal.returns-clause-first
returns-clause-first g c =
    let l = c.loop-rest in
    λ same. absurd (few_not_enough c.args.enough l.updates l.invariant.few same)

pub returns-clause-failed : goal.returns-clause-failed
returns-clause-failed g c = λ some f is.
    let l = c.loop-rest in
    let none : length l.rest.now ≡ 0 = search rules in
    absurd (omega (arith, some, none, ap (λ (xs : List ℕ). length xs) (l.invariant.failed f is).0))

pub returns-clause-heard : goal.returns-clause-heard
returns-clause-heard g c =
    let l = c.loop-rest in
    let none : l.rest.now ≡ [] = empty_rest l.rest.now (search rules) in
    heard_ends g.A.Watcher.steps (λ (n : ℕ). l.updates ≡ min (c.args.before + n) (2 ^ 64 - 1))
    (EndsRead c.args.enough c.args.before (Ok l.updates) l.viewer) c.args.viewer.now
    c.args.watcher.now c.args.bytes.now l.rest.now l.viewer l.watcher l.invariant.heard
    (λ n was. (was, refl, (λ few. none)))
