use Rattle.rfb_server.proofs.server.Server.between.Goals as goal

pub returns-clause-value : goal.returns-clause-value
returns-clause-value c = λ serving s prefix now. c.between.ensures.value serving c.args.self.now.screen s prefix now
