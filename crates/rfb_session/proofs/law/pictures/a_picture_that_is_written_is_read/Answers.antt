use Rattle.rfb_session.proofs.NetpbmWrittenLemmas.{written_spells}
use Rattle.rfb_session.proofs.law.pictures.a_picture_that_is_written_is_read.Goals as goal

pub returns : goal.returns
returns c = λ picture wide high whole are. written_spells picture wide high whole are
