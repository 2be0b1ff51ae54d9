use Rattle.rfb_pixel.proofs.ReadingLemmas.{spells_written}
use Rattle.rfb_pixel.proofs.format.Format.bytes_of_a_format_spell_it.Goals as goal

pub returns : goal.returns
returns c = λ f ok. spells_written f ok
