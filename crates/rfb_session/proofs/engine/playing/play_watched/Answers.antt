use Rattle.std.proofs.Common.{true, false, rules, Ok, Err}
use Rattle.std.proofs.lemmas.Result.{err_from_is_err_and}
use Rattle.rfb_session.specs.declared.engine.fault.EngineFault.TheVariants.{Truncated}
use Rattle.rfb_session.specs.FirstUpdates.{AreFewer, AreNoFewer}
use Rattle.rfb_session.specs.Watcher.{EndsPlaying}
use Rattle.rfb_session.specs.ViewerActs.{StandsBetween}
use Rattle.rfb_session.proofs.PlaySomeLemmas.{all_up_to, cut_up_to, few_not_many, never_many}
use Rattle.rfb_session.proofs.VerdictLemmas.{judges_end, judges_cut, judges_stop}
use Rattle.rfb_session.proofs.WatcherLemmas.{hears_ends}
use Rattle.rfb_session.proofs.engine.playing.play_watched.Goals as goal

pub returns-then-are_enough-clause-between : goal.returns-then-are_enough-clause-between
returns-then-are_enough-clause-between g c =
    let many : AreNoFewer c.args.updates c.in_ok-told.told = search rules in
    λ few. absurd (few_not_many c.args.updates c.in_ok-told.told few many)

pub returns-then-are_enough-clause-verdict : goal.returns-then-are_enough-clause-verdict
returns-then-are_enough-clause-verdict g c =
    let many : AreNoFewer c.args.updates c.in_ok-told.told = search rules in
    λ none. absurd (never_many c.args.updates c.in_ok-told.told none many)

pub returns-then-not-between-clause-heard : goal.returns-then-not-between-clause-heard
returns-then-not-between-clause-heard g c =
    let few : AreFewer c.args.updates c.in_ok-told.told = search rules in
    hears_ends g.A.Watcher.steps (EndsPlaying c.args.updates (Ok c.in_ok-told.told) c.feed_all.new.viewer)
    (EndsPlaying c.args.updates (Err Truncated) c.feed_all.new.viewer)
    (g.R.Source.unread c.args.source.now) (g.R.Source.unread c.feed_all.new.source) c.args.viewer.now
    c.args.watcher.now c.feed_all.new.watcher (λ n later last ends. (ends.1, ends.2 few))
    c.in_ok-told.ensures.heard

pub returns-then-not-between-clause-stopped : goal.returns-then-not-between-clause-stopped
returns-then-not-between-clause-stopped g c =
    let few : AreFewer c.args.updates c.in_ok-told.told = search rules in
    let cut : StandsBetween c.feed_all.new.viewer false = search rules in
    cut_up_to c.args.updates (g.R.Source.unread c.args.source.now) (g.R.Source.unread c.feed_all.new.source)
    (g.R.Source.failed c.args.source.now) (g.R.Source.failed c.feed_all.new.source)
    c.args.viewer.now c.in_ok-told.told c.feed_all.new.viewer few (c.in_ok-told.ensures.played few) cut

pub returns-then-not-between-clause-verdict : goal.returns-then-not-between-clause-verdict
returns-then-not-between-clause-verdict g c =
    let few : AreFewer c.args.updates c.in_ok-told.told = search rules in
    let cut : StandsBetween c.feed_all.new.viewer false = search rules in
    λ none. judges_cut (g.R.Source.unread c.args.source.now) (g.R.Source.unread c.feed_all.new.source)
    (g.R.Source.failed c.args.source.now) (g.R.Source.failed c.feed_all.new.source)
    c.args.viewer.now c.in_ok-told.told c.feed_all.new.viewer (c.in_ok-told.ensures.played few) cut

pub returns-clause-verdict : goal.returns-clause-verdict
returns-clause-verdict g c =
    let few : AreFewer c.args.updates c.in_ok-told.told = search rules in
    let ended : StandsBetween c.feed_all.new.viewer true = search rules in
    λ none. judges_end (g.R.Source.unread c.args.source.now) (g.R.Source.unread c.feed_all.new.source)
    (g.R.Source.failed c.args.source.now) (g.R.Source.failed c.feed_all.new.source)
    c.args.viewer.now c.in_ok-told.told c.feed_all.new.viewer (c.in_ok-told.ensures.played few) ended

pub returns-in_err-told-clause-verdict : goal.returns-in_err-told-clause-verdict
returns-in_err-told-clause-verdict g c =
    let p = err_from_is_err_and c.from_residual.result c.from_residual.ensures.1 in
    rw (p.1, p.2) (λ none.
    judges_stop (g.R.Source.unread c.args.source.now) (g.R.Source.unread c.feed_all.new.source)
    (g.R.Source.failed c.args.source.now) (g.R.Source.failed c.feed_all.new.source)
    c.args.viewer.now c.in_err-told.field-0.0 c.feed_all.new.viewer
    (all_up_to c.args.updates (g.R.Source.unread c.args.source.now) (g.R.Source.unread c.feed_all.new.source)
    (g.R.Source.failed c.args.source.now) (g.R.Source.failed c.feed_all.new.source)
    c.args.viewer.now c.in_err-told.field-0.0 c.feed_all.new.viewer none c.in_err-told.ensures.stopped))

pub returns-in_err-told-clause-heard : goal.returns-in_err-told-clause-heard
returns-in_err-told-clause-heard g c =
    let p = err_from_is_err_and c.from_residual.result c.from_residual.ensures.1 in
    rw (p.1, p.2) c.in_err-told.ensures.heard
