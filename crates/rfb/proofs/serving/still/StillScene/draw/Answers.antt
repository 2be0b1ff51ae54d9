use Rattle.rfb.proofs.SceneLemmas.{draws_none}
use Rattle.rfb.proofs.serving.still.StillScene.draw.Goals as goal

pub returns-clause-drawn : goal.returns-clause-drawn
returns-clause-drawn c = draws_none c.args._server.now
