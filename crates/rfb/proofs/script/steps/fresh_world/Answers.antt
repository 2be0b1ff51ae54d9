use Rattle.rfb_picture.specs.Grid.{uniform}
use Rattle.rfb_server.specs.Server.{black}
use Rattle.rfb.specs.ScriptRun.{ends_of}
use Rattle.rfb.proofs.PlayingLemmas.{fresh_ends}
use Rattle.rfb.proofs.script.steps.fresh_world.Goals as goal

pub returns : goal.returns
returns c =
    c.in_ok-world.ensures (ends_of c.args.screen c.args.wants.now)
    (uniform c.args.screen.width c.args.screen.height black)
    (fresh_ends c.args.screen c.args.wants.now c.in_ok-server.server c.fresh_viewer-viewer.result
    _ _ c.wishes-format.ensures.format c.wishes-format.ensures.encodings c.in_ok-server.ensures
    c.fresh_viewer-viewer.ensures)
