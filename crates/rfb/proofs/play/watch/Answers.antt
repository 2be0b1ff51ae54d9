use Rattle.std.proofs.Common.{ap}
use Rattle.rfb.proofs.RecordingLemmas.{stops_watching, watches}
use Rattle.rfb.proofs.play.watch.Goals as goal

pub returns-clause-watched : goal.returns-clause-watched
returns-clause-watched g c =
    watches c.args.updates _ _ _ _ c.args.viewer.now c.play_watched.result c.play_watched.new.viewer
    c.wide.ensures (ap g.R.Read.remaining c.new-source.ensures.within) c.play_watched.ensures.few
    c.play_watched.ensures.first c.play_watched.ensures.played c.play_watched.ensures.between

pub returns-clause-stopped : goal.returns-clause-stopped
returns-clause-stopped g c =
    stops_watching c.args.updates _ _ _ _ _ _ c.args.viewer.now c.play_watched.result
    c.play_watched.new.viewer c.wide.ensures (ap g.R.Read.remaining c.new-source.ensures.within)
    c.new-source.ensures.none c.play_watched.ensures.stopped
