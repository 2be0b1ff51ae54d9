use Rattle.rfb.proofs.LoopbackLemmas.{leaves_some_picture}
use Rattle.rfb.proofs.loopback.finish.Goals as goal

pub returns-clause-left : goal.returns-clause-left
returns-clause-left g c =
    leaves_some_picture g.W.Write.contents c.play_all-played.new.ends.viewer c.args.context.now.output.now
    c.write_picture.new.output
    c.write_picture.result c.write_picture.ensures.left
