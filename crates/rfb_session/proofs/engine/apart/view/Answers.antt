use Rattle.std.proofs.Common.{◌+◌, None}
use Rattle.rfb_session.proofs.WrittenLemmas.{ok_so}
use Rattle.rfb_session.proofs.ViewedLemmas.{err_each, and_nothing, stops_as}
use Rattle.rfb_session.proofs.engine.apart.view.Goals as goal

pub returns-clause-none_failed : goal.returns-clause-none_failed
returns-clause-none_failed g c =
    ok_so c.view_recording.result _ _ (λ none. (none.0, none.1)) c.view_recording.ensures.none_failed

pub returns-clause-stopped : goal.returns-clause-stopped
returns-clause-stopped g c =
    err_each c.view_recording.result _ _
    (λ fault stops. stops_as (g.R.Source.unread c.args.source.now)
    (g.R.Source.unread c.view_recording.new.source) (g.W.Sink.written c.args.sink.now)
    (g.W.Sink.written c.view_recording.new.sink) None None c.args.viewer.now c.args.updates
    (g.R.Source.failed c.args.source.now + g.W.Sink.failed c.args.sink.now + 0)
    (g.R.Source.failed c.view_recording.new.source
    + g.W.Sink.failed c.view_recording.new.sink + 0)
    (g.R.Source.failed c.args.source.now + g.W.Sink.failed c.args.sink.now)
    (g.R.Source.failed c.view_recording.new.source
    + g.W.Sink.failed c.view_recording.new.sink)
    fault c.view_recording.new.viewer (and_nothing _) (and_nothing _) stops)
    c.view_recording.ensures.stopped
