use Rattle.rfb_session.proofs.PlayedLemmas.{played}
use Rattle.rfb_session.proofs.world.World.played.Goals as goal

pub returns-in-Ok : goal.returns-in-Ok
returns-in-Ok c = played c.args.width c.args.height c.args.events.now c.in_ok-world.world c.run.new.self
    c.requires.columns.0 c.requires.columns.1 c.requires.rows.0 c.requires.rows.1
    c.in_ok-world.ensures c.in-Ok.ensures.headline
