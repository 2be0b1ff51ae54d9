use Rattle.rfb_session.proofs.HubRunLemmas.{stands_step}
use Rattle.rfb_session.proofs.hub.Hub.step.Goals as goal

pub returns-in-Ok-clause-stands : goal.returns-in-Ok-clause-stands
returns-in-Ok-clause-stands c =
    stands_step c.args.self.now c.happen.new.self c.args.event.now c.in-Ok.told
    c.in-Ok.ensures.steps

pub returns-in-Ok-clause-acts : goal.returns-in-Ok-clause-acts
returns-in-Ok-clause-acts c = c.in-Ok.ensures.steps.acts

pub returns-in-Ok-clause-others : goal.returns-in-Ok-clause-others
returns-in-Ok-clause-others c = c.in-Ok.ensures.steps.others

pub returns-in-Ok-clause-does : goal.returns-in-Ok-clause-does
returns-in-Ok-clause-does c = c.in-Ok.ensures.steps.does
