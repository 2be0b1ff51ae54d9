use Rattle.std.proofs.Common.{◌∙◌, arith}
use Rattle.rfb_server.specs.Model.{screen_of}
use Rattle.rfb.proofs.SceneLemmas.{draws_so, draws_then, moved_up_is, size_drawn}
use Rattle.rfb.proofs.scene.move_up.Goals as goal

pub hint-requires : goal.hint-requires
hint-requires c =
    let same = size_drawn _ c.args.server.now c.copy.new.server c.copy.ensures.drawn in
    record {
      inside = (
        (omega (arith, same.0, c.requires.columns), omega (arith, same.1, c.requires.rows)),
        (omega (arith, same.0, c.requires.columns), omega (arith, same.1, c.requires.rows)),
      );
    }

pub returns-clause-drawn : goal.returns-clause-drawn
returns-clause-drawn c =
    draws_so _ _ c.args.server.now c.hint.new.server
    (c.copy.ensures.drawn.screen_is ∙ moved_up_is (screen_of c.args.server.now) c.args.w c.args.above c.requires.columns
    c.requires.rows (omega arith))
    (draws_then _ _ c.args.server.now c.copy.new.server c.hint.new.server c.copy.ensures.drawn c.hint.ensures.drawn)
