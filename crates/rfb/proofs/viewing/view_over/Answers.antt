use Rattle.std.proofs.Common.{◌∙◌, ap, sym, Ok, Err}
use Rattle.std.proofs.lemmas.Result.{err_from_is_err_and}
use Rattle.rfb.specs.declared.fault.Failure.TheVariants as failure
use Rattle.rfb.specs.Recording.{shows_end}
use Rattle.rfb.proofs.RecordingLemmas.{begins_early, ends_same}
use Rattle.rfb.proofs.ViewingLemmas.{fails_recorded, fails_seeing, fails_shown, leaves_seeing, leaves_shown}
use Rattle.rfb.proofs.ViewingLemmas.{never_recorded, saw_flushed, stops_flushed, views_recorded, views_shown}
use Rattle.rfb.proofs.viewing.view_over.Goals as goal

pub returns-then-sight-clause-done : goal.returns-then-sight-clause-done
returns-then-sight-clause-done g c =
    views_recorded c.args.sight _ _ _ _ c.viewer_for-viewer.result c.record-recorded.new.viewer (Ok tt)
    c.viewer_for-viewer.ensures c.if-sight.true
    (saw_flushed _ _ _ _ _ _ _ _ (rw c.in_ok-recorded.was at c.record-recorded.ensures.saw)
    c.flush-flushed.ensures.bytes)

pub returns-in_err-recorded-clause-stopped : goal.returns-in_err-recorded-clause-stopped
returns-in_err-recorded-clause-stopped g c =
    let p = err_from_is_err_and c.from_residual.result c.from_residual.ensures.1 in
    rw (p.1, p.2)
    (fails_recorded c.args.sight _ _ _ _ c.viewer_for-viewer.result c.record-recorded.new.viewer
    (Err (failure.Engine c.in_err-recorded.field-0.0)) c.viewer_for-viewer.ensures c.if-sight.true
    (stops_flushed _ _ _ _ _ _ _ _ _ (rw c.in_err-recorded.was at c.record-recorded.ensures.stopped)
    c.flush-flushed.ensures.bytes))

pub returns-in_err-recorded-clause-left : goal.returns-in_err-recorded-clause-left
returns-in_err-recorded-clause-left g c = λ not. never_recorded c.args.sight.is_recorded _ c.if-sight.true not

pub returns-in_err-flushed-clause-stopped : goal.returns-in_err-flushed-clause-stopped
returns-in_err-flushed-clause-stopped g c =
    let p = err_from_is_err_and c.from_residual-in_err-flushed.result c.from_residual-in_err-flushed.ensures.1 in
    rw (p.1, p.2.2)
    (fails_recorded c.args.sight _ _ _ _ c.viewer_for-viewer.result c.record-recorded.new.viewer (Err
    (failure.Fault p.2.0))
    c.viewer_for-viewer.ensures c.if-sight.true
    (saw_flushed _ _ _ _ _ _ _ _ (rw c.in_ok-recorded.was at c.record-recorded.ensures.saw)
    c.flush-flushed.ensures.bytes))

pub returns-in_err-flushed-clause-left : goal.returns-in_err-flushed-clause-left
returns-in_err-flushed-clause-left g c = λ not. never_recorded c.args.sight.is_recorded _ c.if-sight.true not

pub returns-then-sight-clause-left : goal.returns-then-sight-clause-left
returns-then-sight-clause-left g c = λ not. never_recorded c.args.sight.is_recorded _ c.if-sight.true not

pub returns-in-Ok-clause-done : goal.returns-in-Ok-clause-done
returns-in-Ok-clause-done g c =
    views_shown c.args.sight _ _ _ _ c.viewer_for-viewer.result c.watch_heard.new.viewer c.show.result
    c.viewer_for-viewer.ensures c.if-sight.false c.in-Ok.ensures.saw c.show.ensures.done

pub returns-in-Ok-clause-stopped : goal.returns-in-Ok-clause-stopped
returns-in-Ok-clause-stopped g c =
    fails_shown c.args.sight _ _ _ _ c.viewer_for-viewer.result c.watch_heard.new.viewer c.show.result
    c.viewer_for-viewer.ensures c.if-sight.false c.in-Ok.ensures.saw c.show.ensures.stopped

pub returns-in-Ok-clause-left : goal.returns-in-Ok-clause-left
returns-in-Ok-clause-left g c = λ not.
    leaves_shown g.W.Write.contents c.args.sight _ _ c.args.output.now c.show.new.output
    c.viewer_for-viewer.result c.watch_heard.new.viewer c.show.result c.viewer_for-viewer.ensures not
    c.in-Ok.ensures.saw c.show.ensures.left

pub returns-clause-stopped : goal.returns-clause-stopped
returns-clause-stopped g c =
    fails_seeing c.args.sight _ _ _ _ c.viewer_for-viewer.result c.watch_heard.new.viewer c.in-Err.fault
    c.show_early.result
    c.viewer_for-viewer.ensures c.if-sight.false c.in-Err.ensures.stopped c.show_early.ensures.ends

pub returns-clause-unwritten : goal.returns-clause-unwritten
returns-clause-unwritten g c = λ not fault is unshown.
    let same = ends_same c.args.sight.is_partial c.watch_heard.new.viewer c.in-Err.fault fault _ _
    c.show_early.result c.show_early.ensures.ends (cc) in
    c.show_early.ensures.unwanted (ap (shows_end c.args.sight.is_partial) (sym same) ∙ unshown)

pub returns-clause-left : goal.returns-clause-left
returns-clause-left g c = λ not.
    leaves_seeing c.args.sight _ _ _ _ c.viewer_for-viewer.result c.watch_heard.new.viewer c.in-Err.fault
    c.viewer_for-viewer.ensures not c.in-Err.ensures.stopped
    (begins_early c.args.sight.is_partial c.watch_heard.new.viewer _ _ _ c.show_early.result c.show_early.ensures.ends)
