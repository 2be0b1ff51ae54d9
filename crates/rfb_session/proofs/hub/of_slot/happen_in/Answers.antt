use Rattle.rfb_session.proofs.hub.of_slot.happen_in.Goals as goal

pub happen-requires-clause-follows : goal.happen-requires-clause-follows
happen-requires-clause-follows c = c.requires.follows c.in-Some.seat c.in-Some.is
