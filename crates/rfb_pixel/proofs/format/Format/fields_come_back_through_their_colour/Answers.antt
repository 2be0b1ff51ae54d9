use Rattle.rfb_pixel.proofs.FormatLemmas.{colour_of-kept}
use Rattle.rfb_pixel.proofs.format.Format.fields_come_back_through_their_colour.Goals as goal

pub returns : goal.returns
returns c = λ f p ok. colour_of-kept f p ok
