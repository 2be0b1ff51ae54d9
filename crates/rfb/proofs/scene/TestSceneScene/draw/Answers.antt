use Rattle.std.proofs.Common.{◌≡◌, arith, rules}
use Rattle.rfb_server.specs.Model.{screen_of}
use Rattle.rfb.proofs.SceneLemmas.{size_stepped, stepped_empty}
use Rattle.rfb.proofs.scene.TestSceneScene.draw.Goals as goal

pub returns-then-height-gt0-clause-size : goal.returns-then-height-gt0-clause-size
returns-then-height-gt0-clause-size c =
    size_stepped _ (screen_of c.args.server.now) (screen_of c.draw_step.new.server) c.draw_step.ensures.drawn.screen_is

pub returns-else-height-gt0-clause-step : goal.returns-else-height-gt0-clause-step
returns-else-height-gt0-clause-step c =
    let old = c.args.server.now in
    let rows : c.height.result ≡ (screen_of old).height = cc in
    stepped_empty _ (screen_of old) old.follows.whole (omega (arith, rows, c.if-height-gt0.false))

pub returns-else-height-gt0-clause-shown : goal.returns-else-height-gt0-clause-shown
returns-else-height-gt0-clause-shown c = (returns-else-height-gt0-clause-step c, (search rules))
