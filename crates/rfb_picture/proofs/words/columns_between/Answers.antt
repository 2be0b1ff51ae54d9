use Rattle.std.proofs.Common.{◌*◌}
use Rattle.rfb_picture.proofs.WordLemmas.{between}
use Rattle.rfb_picture.proofs.words.columns_between.Goals as goal

pub returns : goal.returns
returns c =
    λ i l.
    rw (c.saturating_sub-low.ensures, c.min-high.ensures)
    (between (c.args.column * 64) c.args.from c.args.to i c.requires.from c.requires.to l)
