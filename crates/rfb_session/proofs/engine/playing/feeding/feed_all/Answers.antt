use Rattle.std.proofs.Common.{◌≡◌, ◌∙◌, ◌<◌, ℕ, take, length, refl, arith, rules, Ok, Err, ap, inl, inr}
use Rattle.std.proofs.KnownBytes.{Consumes-nil}
use Rattle.std.proofs.lemmas.Result.{err_from_is_err_and}
use Rattle.rfb_viewer.specs.declared.viewer.Viewer.{Viewer}
use Rattle.rfb_viewer.specs.Model.{fault_of}
use Rattle.rfb_session.proofs.FailedLemmas.{no_answer, none_kept, none_then, some_turns, told_as}
use Rattle.rfb_session.proofs.PlayLemmas.{reading_none, reading_more, reading_stops, reading_ends, reading_out}
use Rattle.rfb_session.proofs.PlayLemmas.{none_taken, reading_until, some_taken}
use Rattle.rfb_session.specs.declared.engine.fault.EngineFault.TheVariants.{Device, Viewer as ViewerEnded}
use Rattle.rfb_session.specs.Playback.{most}
use Rattle.rfb_session.specs.FirstUpdates.{AreFewer, AreNoFewer}
use Rattle.rfb_session.specs.Watcher.{EndsPlaying, EndsRead}
use Rattle.rfb_session.proofs.PlayLemmas.{goes_on}
use Rattle.rfb_session.proofs.PlaySomeLemmas.{device_up_to, few_at_first, few_at_most, few_not_enough, few_not_many}
use Rattle.rfb_session.proofs.PlaySomeLemmas.{reading_enough, until_up_to}
use Rattle.rfb_session.proofs.WatcherLemmas.{over_ends, over_more, over_none, over_stops}
use Rattle.rfb_session.proofs.engine.playing.feeding.feed_all.Goals as goal

pub loop-turn-init : goal.loop-turn-init
loop-turn-init g c = record {
  reading = reading_none (g.R.Source.unread c.args.source.now) c.args.viewer.now;
  few = few_at_first c.args.enough c.requires.some;
  none_failed = refl;
  size = refl;
  failed = λ f is. (refl, refl, refl, Consumes-nil (g.R.Source.unread c.args.source.now));
  heard = over_none g.A.Watcher.steps (λ (n : ℕ). 0 ≡ most n) (g.R.Source.unread c.args.source.now)
      c.args.viewer.now c.args.watcher.now refl;
}

pub returns-in_default-clause-stopped : goal.returns-in_default-clause-stopped
returns-in_default-clause-stopped g c =
    let l = c.loop-turn in
    device_up_to c.args.enough (g.R.Source.unread c.args.source.now) (g.R.Source.unread c.read.new.self)
    (g.R.Source.failed c.args.source.now) (g.R.Source.failed c.read.new.self) c.args.viewer.now
    l.invariant.reading.updates l.viewer
    (omega (arith, c.in_default.ensures.count, l.invariant.none_failed))
    (reading_stops (g.R.Source.unread c.args.source.now) (g.R.Source.unread l.source)
    (g.R.Source.unread c.read.new.self) c.args.viewer.now l._turn l.updates l.viewer
    l.invariant.reading c.in_default.ensures.bytes)

pub returns-in_default-clause-heard : goal.returns-in_default-clause-heard
returns-in_default-clause-heard g c =
    let l = c.loop-turn in
    let mid = g.R.Source.unread l.source in
    over_stops g.A.Watcher.steps (λ (n : ℕ). l.updates ≡ most n)
    (EndsPlaying c.args.enough (Err Device) l.viewer) (g.R.Source.unread c.args.source.now) mid
    (g.R.Source.unread c.read.new.self) c.args.viewer.now c.args.watcher.now l.viewer l.watcher
    l.invariant.heard
    (none_kept mid mid (g.R.Source.unread c.read.new.self) (Consumes-nil mid) c.in_default.ensures.bytes)
    (λ n was. (refl, refl))

pub returns-then-count-eq0-clause-few : goal.returns-then-count-eq0-clause-few
returns-then-count-eq0-clause-few g c =
    few_at_most c.args.enough c.loop-turn.updates c.loop-turn.invariant.few

pub returns-then-count-eq0-clause-heard : goal.returns-then-count-eq0-clause-heard
returns-then-count-eq0-clause-heard g c =
    let l = c.loop-turn in
    let mid = g.R.Source.unread l.source in
    let new = g.R.Source.unread c.read.new.self in
    over_stops g.A.Watcher.steps (λ (n : ℕ). l.updates ≡ most n)
    (EndsPlaying c.args.enough (Ok l.updates) l.viewer) (g.R.Source.unread c.args.source.now) mid new
    c.args.viewer.now c.args.watcher.now l.viewer l.watcher l.invariant.heard
    (none_taken mid new c.in-Ok.count c.read.new.buf (search rules) c.in-Ok.ensures.bytes.0)
    (λ n was. (was, refl, (λ few. refl)))

pub returns-then-count-eq0-clause-first : goal.returns-then-count-eq0-clause-first
returns-then-count-eq0-clause-first g c =
    let l = c.loop-turn in λ same. absurd (few_not_enough c.args.enough l.updates l.invariant.few same)

pub returns-then-count-eq0-clause-played : goal.returns-then-count-eq0-clause-played
returns-then-count-eq0-clause-played g c =
    let l = c.loop-turn in
    let mid = g.R.Source.unread l.source in
    let new = g.R.Source.unread c.read.new.self in
    let none : c.in-Ok.count ≡ 0 = search rules in
    let size : length c.read.new.buf ≡ 32768 = search rules in
    λ few. reading_ends (g.R.Source.unread c.args.source.now) mid new c.args.viewer.now l._turn
    l.updates l.viewer l.invariant.reading
    (none_taken mid new c.in-Ok.count c.read.new.buf none c.in-Ok.ensures.bytes.0)
    (c.in-Ok.ensures.bytes.1 none (omega (arith, size)))

pub returns-then-are_enough-clause-first : goal.returns-then-are_enough-clause-first
returns-then-are_enough-clause-first g c =
    let l = c.loop-turn in
    let many : AreNoFewer c.args.enough c.in_ok-updates.updates = search rules in
    λ same. reading_enough c.args.enough (g.R.Source.unread c.args.source.now) (g.R.Source.unread l.source)
    (g.R.Source.unread c.read.new.self) c.args.viewer.now l._turn l.updates l.viewer
    (take c.in-Ok.count c.read.new.buf) c.in_ok-updates.updates c.feed_read.new.viewer
    l.invariant.reading c.in-Ok.ensures.bytes.0 l.invariant.few many (omega arith)
    (c.in_ok-updates.ensures.first same)

pub returns-then-are_enough-clause-played : goal.returns-then-are_enough-clause-played
returns-then-are_enough-clause-played g c = λ few. absurd (few_not_many _ _ few (search rules))

pub returns-then-are_enough-clause-heard : goal.returns-then-are_enough-clause-heard
returns-then-are_enough-clause-heard g c =
    let l = c.loop-turn in
    over_ends g.A.Watcher.steps (λ (n : ℕ). l.updates ≡ most n)
    (EndsRead c.args.enough l.updates (Ok c.in_ok-updates.updates) c.feed_read.new.viewer)
    (EndsPlaying c.args.enough (Ok c.in_ok-updates.updates) c.feed_read.new.viewer)
    (g.R.Source.unread c.args.source.now) (g.R.Source.unread l.source) (g.R.Source.unread c.read.new.self)
    c.args.viewer.now c.args.watcher.now l.viewer l.watcher (take c.in-Ok.count c.read.new.buf)
    c.feed_read.new.watcher l.invariant.heard c.in-Ok.ensures.bytes.0 c.in_ok-updates.ensures.heard
    (λ m n later last was ends. (
      goes_on m n l.updates c.in_ok-updates.updates was ends.0,
      ends.1,
      ends.2,
    ))

pub returns-in_err-updates-clause-stopped : goal.returns-in_err-updates-clause-stopped
returns-in_err-updates-clause-stopped g c =
    let p = err_from_is_err_and c.from_residual.result c.from_residual.ensures.1 in
    rw (p.1, p.2) (let l = c.loop-turn in
    until_up_to c.args.enough (g.R.Source.unread c.args.source.now) (g.R.Source.unread c.read.new.self)
    (g.R.Source.failed c.args.source.now) (g.R.Source.failed c.read.new.self) c.args.viewer.now
    c.in_err-updates.field-0.0 c.feed_read.new.viewer
    (reading_until (g.R.Source.unread c.args.source.now) (g.R.Source.unread l.source)
    (g.R.Source.unread c.read.new.self) c.args.viewer.now l._turn l.updates l.viewer
    (take c.in-Ok.count c.read.new.buf) c.in_err-updates.field-0.0 c.feed_read.new.viewer
    l.invariant.reading c.in-Ok.ensures.bytes.0 c.in_err-updates.ensures.stopped))

pub returns-in_err-updates-clause-heard : goal.returns-in_err-updates-clause-heard
returns-in_err-updates-clause-heard g c =
    let p = err_from_is_err_and c.from_residual.result c.from_residual.ensures.1 in
    rw (p.1, p.2) (let l = c.loop-turn in
    over_ends g.A.Watcher.steps (λ (n : ℕ). l.updates ≡ most n)
    (EndsRead c.args.enough l.updates (Err c.in_err-updates.field-0.0) c.feed_read.new.viewer)
    (EndsPlaying c.args.enough (Err (ViewerEnded c.in_err-updates.field-0.0)) c.feed_read.new.viewer)
    (g.R.Source.unread c.args.source.now) (g.R.Source.unread l.source) (g.R.Source.unread c.read.new.self)
    c.args.viewer.now c.args.watcher.now l.viewer l.watcher (take c.in-Ok.count c.read.new.buf)
    c.feed_read.new.watcher l.invariant.heard c.in-Ok.ensures.bytes.0 c.in_err-updates.ensures.heard
    (λ m n later last was ends. ends))

pub loop-turn-preserved : goal.loop-turn-preserved
loop-turn-preserved g c =
    let l = c.loop-turn in
    let size : length c.read.new.buf ≡ 32768 = search rules in
    let some : 0 < c.in-Ok.count = search rules in
    let few : AreFewer c.args.enough c.in_ok-updates.updates = search rules in
    record {
      reading = reading_more (g.R.Source.unread c.args.source.now) (g.R.Source.unread l.source)
          (g.R.Source.unread c.read.new.self) c.args.viewer.now l._turn l.updates l.viewer
          (take c.in-Ok.count c.read.new.buf) c.in_ok-updates.updates c.feed_read.new.viewer
          l.invariant.reading c.in-Ok.ensures.bytes.0
          (some_taken c.in-Ok.count c.read.new.buf some (search rules))
          (c.in_ok-updates.ensures.watched few);
      few = few;
      none_failed = c.in-Ok.ensures.count ∙ l.invariant.none_failed;
      size = size;
      failed = λ f is.
          let again = c.in_ok-updates.ensures.failed
          (some_taken c.in-Ok.count c.read.new.buf some (search rules)) f
          (ap (λ (v : Viewer). fault_of v) (l.invariant.failed f is).2 ∙ is) in
          absurd (no_answer c.in_ok-updates.updates f again.0);
      heard = over_more g.A.Watcher.steps (λ (n : ℕ). l.updates ≡ most n)
          (λ (n : ℕ). c.in_ok-updates.updates ≡ most n)
          (EndsRead c.args.enough l.updates (Ok c.in_ok-updates.updates) c.feed_read.new.viewer)
          (g.R.Source.unread c.args.source.now) (g.R.Source.unread l.source)
          (g.R.Source.unread c.read.new.self) c.args.viewer.now c.args.watcher.now l.viewer l.watcher
          (take c.in-Ok.count c.read.new.buf) c.feed_read.new.viewer c.feed_read.new.watcher
          l.invariant.heard c.in-Ok.ensures.bytes.0 c.in_ok-updates.ensures.heard
          (λ m n later last was ends. (
            goes_on m n l.updates c.in_ok-updates.updates was ends.0,
            ends.1,
            ends.2 few,
          ));
    }

pub returns-clause-few : goal.returns-clause-few
returns-clause-few g c = few_at_most c.args.enough c.loop-turn.updates c.loop-turn.invariant.few

pub returns-clause-heard : goal.returns-clause-heard
returns-clause-heard g c =
    let l = c.loop-turn in
    let here = g.R.Source.unread l.source in
    over_stops g.A.Watcher.steps (λ (n : ℕ). l.updates ≡ most n)
    (EndsPlaying c.args.enough (Ok l.updates) l.viewer) (g.R.Source.unread c.args.source.now) here here
    c.args.viewer.now c.args.watcher.now l.viewer l.watcher l.invariant.heard (Consumes-nil here)
    (λ n was. (was, refl, (λ few. refl)))

pub returns-clause-first : goal.returns-clause-first
returns-clause-first g c =
    let l = c.loop-turn in λ same. absurd (few_not_enough c.args.enough l.updates l.invariant.few same)

pub returns-clause-played : goal.returns-clause-played
returns-clause-played g c =
    let l = c.loop-turn in
    λ few. reading_out (g.R.Source.unread c.args.source.now) (g.R.Source.unread l.source)
    c.args.viewer.now l._turn l.updates l.viewer l.invariant.reading (search rules)

pub returns-then-are_enough-clause-failed : goal.returns-then-are_enough-clause-failed
returns-then-are_enough-clause-failed g c = λ f is.
    let l = c.loop-turn in
    let some : 0 < c.in-Ok.count = search rules in
    let again = c.in_ok-updates.ensures.failed
    (some_taken c.in-Ok.count c.read.new.buf some (search rules)) f
    (ap (λ (v : Viewer). fault_of v) (l.invariant.failed f is).2 ∙ is) in
    absurd (no_answer c.in_ok-updates.updates f again.0)

pub returns-in_default-clause-failed : goal.returns-in_default-clause-failed
returns-in_default-clause-failed g c = λ f is.
    let l = c.loop-turn in
    let was = l.invariant.failed f is in (
      was.2,
      inr (
        none_kept (g.R.Source.unread c.args.source.now) (g.R.Source.unread l.source)
            (g.R.Source.unread c.read.new.self) was.3 c.in_default.ensures.bytes,
        inl refl,
      ),
    )

pub returns-then-count-eq0-clause-failed : goal.returns-then-count-eq0-clause-failed
returns-then-count-eq0-clause-failed g c = λ f is.
    let l = c.loop-turn in
    let mid = g.R.Source.unread l.source in
    let new = g.R.Source.unread c.read.new.self in
    let was = l.invariant.failed f is in (
      was.2,
      inr (
        none_then (g.R.Source.unread c.args.source.now) mid new was.3
            (none_taken mid new c.in-Ok.count c.read.new.buf (search rules) c.in-Ok.ensures.bytes.0),
        inr (ap (λ (n : ℕ). Ok n) was.1),
      ),
    )

pub returns-in_err-updates-clause-failed : goal.returns-in_err-updates-clause-failed
returns-in_err-updates-clause-failed g c =
    let p = err_from_is_err_and c.from_residual.result c.from_residual.ensures.1 in
    rw (p.1, p.2) (λ f is.
    let l = c.loop-turn in
    let some : 0 < c.in-Ok.count = search rules in
    let was = l.invariant.failed f is in
    let again = c.in_err-updates.ensures.failed
    (some_taken c.in-Ok.count c.read.new.buf some (search rules)) f
    (ap (λ (v : Viewer). fault_of v) was.2 ∙ is) in
    (again.1 ∙ was.2, inl (told_as f c.in_err-updates.field-0.0 again.0)))

pub returns-clause-failed : goal.returns-clause-failed
returns-clause-failed g c = λ f is.
    let l = c.loop-turn in
    absurd (some_turns l._turn (l.invariant.failed f is).0 (search rules))
