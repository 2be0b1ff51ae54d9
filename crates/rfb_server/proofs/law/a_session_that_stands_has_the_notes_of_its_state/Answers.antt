use Rattle.rfb_server.proofs.ServerLaws.{session_going, session_noted}
use Rattle.rfb_server.proofs.law.a_session_that_stands_has_the_notes_of_its_state.Goals as goal

pub returns-clause-going : goal.returns-clause-going
returns-clause-going c = session_going

pub returns-clause-notes : goal.returns-clause-notes
returns-clause-notes c = session_noted
