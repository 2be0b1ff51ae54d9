use Rattle.std.proofs.Common.{sym}
use Rattle.rfb_server.proofs.ServerLaws.{session_noted}
use Rattle.rfb_server.proofs.law.a_server_that_stands_has_the_notes_of_its_state.Goals as goal

pub returns-clause-screen : goal.returns-clause-screen
returns-clause-screen c = λ serving server s prefix stands. sym stands.screen_is

pub returns-clause-notes : goal.returns-clause-notes
returns-clause-notes c =
    λ serving server s prefix stands. session_noted serving server.screen server.session s prefix stands
