use Rattle.rfb_pixel.proofs.WideningLemmas.{widened}
use Rattle.rfb_pixel.proofs.channel.widen.Goals as goal

pub returns : goal.returns
returns c = rw c.from.ensures (widened c.args.width c.args.value c.requires.some c.requires.few c.requires.value)
