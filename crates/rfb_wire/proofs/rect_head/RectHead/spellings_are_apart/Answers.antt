use Rattle.rfb_wire.proofs.RectLemmas.{rect-apart}
use Rattle.rfb_wire.proofs.rect_head.RectHead.spellings_are_apart.Goals as goal

pub returns : goal.returns
returns c = rect-apart
