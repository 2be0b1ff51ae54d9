use Rattle.std.proofs.Common.{sym}
use Rattle.rfb_session.proofs.console.Console.obey.Goals as goal

pub returns-in-Pixels-clause-obeys : goal.returns-in-Pixels-clause-obeys
returns-in-Pixels-clause-obeys g c = rw (c.in-Pixels.is, sym c.deref.ensures.value) c.draw.ensures.draws
