use Rattle.rfb_server.proofs.late.stage.Stage.enter.Goals as goal

pub returns-in_default-clause-ready : goal.returns-in_default-clause-ready
returns-in_default-clause-ready c = λ count. c.in_ok-places.ensures.none c.in_default.is count
