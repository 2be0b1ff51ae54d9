use Rattle.rfb.proofs.defaults.fresh_server.Goals as goal

pub returns : goal.returns
returns c = c.of.ensures.stands
