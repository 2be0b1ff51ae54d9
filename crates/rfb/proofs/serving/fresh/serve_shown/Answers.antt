use Rattle.std.proofs.Common.{ap}
use Rattle.rfb.proofs.ServingLemmas.{served_from}
use Rattle.rfb.proofs.serving.fresh.serve_shown.Goals as goal

pub returns : goal.returns
returns g c =
    served_from _ _ _ _ _ _ _ _ _ _ c.args.server.now c.serve.new.server c.serve.result
    (ap g.R.Read.remaining c.new-source.ensures.within) (ap g.W.Write.contents c.new-sink.ensures.within)
    c.new-source.ensures.none c.new-sink.ensures.none c.serve.ensures.served
    c.serve.ensures.between c.serve.ensures.stopped
