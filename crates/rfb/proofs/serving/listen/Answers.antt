use Rattle.rfb_session.proofs.WrittenLaws.{on_err}
use Rattle.rfb.proofs.ServingLemmas.{serves_not}
use Rattle.rfb.proofs.serving.listen.Goals as goal

pub returns-in_err-listener-clause-stopped : goal.returns-in_err-listener-clause-stopped
returns-in_err-listener-clause-stopped g c =
    on_err c.from_residual.result _
    (serves_not c.args.screen.now c.args.options.connections
    (g.W.Write.contents c.args.context.now.output.now))
