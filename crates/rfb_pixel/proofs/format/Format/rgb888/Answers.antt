use Rattle.rfb_pixel.proofs.FormatLemmas.{seen_in_rgb888}
use Rattle.rfb_pixel.proofs.format.Format.rgb888.Goals as goal

pub returns-clause-seen : goal.returns-clause-seen
returns-clause-seen c = λ colour small. seen_in_rgb888 colour small
