use Rattle.rfb.proofs.LoopbackLemmas.{some_picture}
use Rattle.rfb.proofs.loopback.run.Goals as goal

pub returns-clause-done : goal.returns-clause-done
returns-clause-done g c =
    some_picture c.finish-finished.new.ends.viewer (g.W.Write.contents c.args.context.now.output.now)
    (g.W.Write.contents c.finish-finished.new.context.output.now) c.finish-finished.result
    c.finish-finished.ensures.done
