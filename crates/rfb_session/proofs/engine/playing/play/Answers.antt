use Rattle.std.proofs.Common.{refl}
use Rattle.rfb_session.proofs.engine.playing.play.Goals as goal

pub returns-clause-verdict : goal.returns-clause-verdict
returns-clause-verdict g c = c.play_watched.ensures.verdict refl
