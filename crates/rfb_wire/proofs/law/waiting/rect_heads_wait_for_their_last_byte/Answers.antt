use Rattle.rfb_wire.proofs.WaitLaws.{rect_waits}
use Rattle.rfb_wire.proofs.law.waiting.rect_heads_wait_for_their_last_byte.Goals as goal

pub returns : goal.returns
returns c = λ width height bytes less. rect_waits width height bytes less
