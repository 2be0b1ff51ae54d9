use Rattle.std.proofs.Common.{◌∙◌, ap, sym}
use Rattle.rfb.specs.Recording.{shows_end}
use Rattle.rfb.proofs.RecordingLemmas.{begins_early, ends_same, fails_early, fails_to_show, leaves_early}
use Rattle.rfb.proofs.RecordingLemmas.{leaves_recording, plays_recording, shown_no_engine}
use Rattle.rfb.proofs.play.play_to.Goals as goal

pub returns-in-Ok-clause-done : goal.returns-in-Ok-clause-done
returns-in-Ok-clause-done g c =
    plays_recording c.args.options _ _ _ _ c.watch_heard.new.viewer _ c.show.result c.requires
    c.in-Ok.ensures.watched c.show.ensures.done

pub returns-in-Ok-clause-stopped : goal.returns-in-Ok-clause-stopped
returns-in-Ok-clause-stopped g c = fails_to_show c.args.options _ _ _ c.show.result c.show.ensures.stopped

pub returns-in-Ok-clause-unwritten : goal.returns-in-Ok-clause-unwritten
returns-in-Ok-clause-unwritten g c =
    λ fault is unshown. absurd (shown_no_engine fault c.show.result c.show.ensures.stopped is)

pub returns-in-Ok-clause-left : goal.returns-in-Ok-clause-left
returns-in-Ok-clause-left g c =
    leaves_recording g.W.Write.contents c.args.options _ c.args.output.now c.show.new.output _ c.watch_heard.new.viewer
    _ c.show.result c.requires c.in-Ok.ensures.watched c.show.ensures.left

pub returns-in-Err-clause-stopped : goal.returns-in-Err-clause-stopped
returns-in-Err-clause-stopped g c =
    fails_early c.args.options _ _ _ c.args.viewer.now c.watch_heard.new.viewer _ c.show_early.result
    c.requires c.in-Err.ensures.stopped c.show_early.ensures.ends

pub returns-in-Err-clause-unwritten : goal.returns-in-Err-clause-unwritten
returns-in-Err-clause-unwritten g c = λ fault is unshown.
    let same = ends_same c.args.options.is_partial c.watch_heard.new.viewer c.in-Err.fault fault _ _ c.show_early.result
    c.show_early.ensures.ends (cc) in
    c.show_early.ensures.unwanted (ap (shows_end c.args.options.is_partial) (sym same) ∙ unshown)

pub returns-in-Err-clause-left : goal.returns-in-Err-clause-left
returns-in-Err-clause-left g c =
    leaves_early c.args.options _ _ _ c.args.viewer.now c.watch_heard.new.viewer _
    c.requires c.in-Err.ensures.stopped
    (begins_early c.args.options.is_partial c.watch_heard.new.viewer _ _ _
    c.show_early.result c.show_early.ensures.ends)
