use Rattle.std.proofs.Common.{ap, refl, arith}
use Rattle.rfb.proofs.ViewingLemmas.{stops_seeing}
use Rattle.rfb.proofs.viewing.watching.watch.Goals as goal

pub returns-clause-stopped : goal.returns-clause-stopped
returns-clause-stopped g c =
    stops_seeing _ _ _ _ _ _ _ _ _ _ _ c.args.viewer.now c.args.updates c.view_watched.result c.view_watched.new.viewer
    (ap g.R.Read.remaining c.new-source.ensures.within) (ap g.V.Write.contents c.new-sink.ensures.within) refl
    (omega (arith, c.new-source.ensures.none, c.new-sink.ensures.none, c.requires.unfailed))
    c.view_watched.ensures.stopped
