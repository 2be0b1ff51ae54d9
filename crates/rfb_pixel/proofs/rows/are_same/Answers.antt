use Rattle.rfb_pixel.proofs.LaneLemmas.{same_chunks}
use Rattle.rfb_pixel.proofs.rows.are_same.Goals as goal

pub returns : goal.returns
returns c = same_chunks c.args.a.now c.args.b.now c.args.at c.requires.left c.requires.right
