use Rattle.rfb_server.proofs.ComposingLaws.{shows_screen}
use Rattle.rfb_server.proofs.law.an_answered_area_shows_the_screen.Goals as goal

pub returns : goal.returns
returns c = shows_screen
