use Rattle.rfb_codec.proofs.HextileRuleLemmas.{one_background, two_background}
use Rattle.rfb_codec.proofs.choice.palette.background_in.Goals as goal

pub returns-in-One-clause-background : goal.returns-in-One-clause-background
returns-in-One-clause-background c =
    one_background _ c.args.pixels.now c.requires.some (rw c.in-One.is at c.requires.palette)

pub returns-in-Two-clause-background : goal.returns-in-Two-clause-background
returns-in-Two-clause-background c =
    two_background _ _ c.args.pixels.now (rw c.in-Two.is at c.requires.palette)
