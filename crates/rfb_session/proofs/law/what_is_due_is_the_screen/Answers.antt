use Rattle.rfb_session.proofs.NetworkLemmas.{first_reached, headline_holds}
use Rattle.rfb_session.proofs.law.what_is_due_is_the_screen.Goals as goal

pub returns-clause-fresh : goal.returns-clause-fresh
returns-clause-fresh c = first_reached

pub returns-clause-holds : goal.returns-clause-holds
returns-clause-holds c = headline_holds
