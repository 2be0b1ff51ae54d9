use Rattle.rfb_pixel.proofs.UnpackLemmas.{numbers_in}
use Rattle.rfb_pixel.proofs.lanes.components_of.Goals as goal

pub returns : goal.returns
returns c = numbers_in c.args.bytes c.fits-bytes.0 c.fits-bytes.1
