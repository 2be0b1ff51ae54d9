use Rattle.rfb_pixel.proofs.PackLemmas.{eight_read}
use Rattle.rfb_pixel.proofs.lanes.read_eight.Goals as goal

pub returns : goal.returns
returns c = eight_read c.args.colours.now _ c.requires
