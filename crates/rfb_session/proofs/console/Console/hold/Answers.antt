use Rattle.std.proofs.Common.{refl}
use Rattle.rfb_session.specs.console.Console.{Done}
use Rattle.rfb_session.proofs.console.Console.hold.Goals as goal

pub returns-in-Some-clause-holds : goal.returns-in-Some-clause-holds
returns-in-Some-clause-holds g c = Done _ _ c.in-Some.is refl c.hold.ensures
