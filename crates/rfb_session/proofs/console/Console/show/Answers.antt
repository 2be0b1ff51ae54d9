use Rattle.std.proofs.Common.{refl}
use Rattle.rfb_session.specs.console.Console.{Done}
use Rattle.rfb_session.proofs.console.Console.show.Goals as goal

pub returns-in-Some-clause-shows : goal.returns-in-Some-clause-shows
returns-in-Some-clause-shows g c = Done _ _ c.in-Some.is refl c.show.ensures
