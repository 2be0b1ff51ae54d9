use Rattle.rfb_pixel.proofs.Pack888Lemmas.{numbers}
use Rattle.rfb_pixel.proofs.lanes.rgb888.numbers_of.Goals as goal

pub returns-clause-value : goal.returns-clause-value
returns-clause-value c = numbers c.args.bytes c.fits-bytes.0 c.fits-bytes.1
