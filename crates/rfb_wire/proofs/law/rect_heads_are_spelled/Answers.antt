use Rattle.rfb_wire.proofs.RectStreamLaws.{rect_head_reads}
use Rattle.rfb_wire.proofs.law.rect_heads_are_spelled.Goals as goal

pub returns : goal.returns
returns c = λ width height. rect_head_reads width height
