use Rattle.std.proofs.Common.{ap, length}
use Rattle.rfb_pixel.specs.Format.{pixel_of, rgb888}
use Rattle.rfb_pixel.proofs.PackLemmas.{eight_packed}
use Rattle.rfb_pixel.proofs.lanes.rgb888.pack_eight_rgb888.Goals as goal

pub returns-clause-value : goal.returns-clause-value
returns-clause-value c = eight_packed (pixel_of rgb888) c.pixels_of.ensures.value c.read_eight.ensures c.requires

pub returns-clause-len : goal.returns-clause-len
returns-clause-len c = ap length c.pixels_of.ensures.value
