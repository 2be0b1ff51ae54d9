use Rattle.rfb_session.proofs.world.World.picture.Goals as goal

pub returns-clause-due : goal.returns-clause-due
returns-clause-due c = λ e n stands none. c.picture.ensures.due e n.screen n.link stands.link_is none
