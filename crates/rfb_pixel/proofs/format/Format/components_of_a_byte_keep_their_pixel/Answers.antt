use Rattle.rfb_pixel.proofs.FormatLemmas.{pixel_of_bytes-same}
use Rattle.rfb_pixel.proofs.format.Format.components_of_a_byte_keep_their_pixel.Goals as goal

pub returns : goal.returns
returns c = λ f r g b. pixel_of_bytes-same f r g b
