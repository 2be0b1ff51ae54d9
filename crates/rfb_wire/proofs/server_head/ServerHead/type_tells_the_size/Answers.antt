use Rattle.rfb_wire.proofs.ServerLemmas.{server-sizes, server-spelled}
use Rattle.rfb_wire.proofs.server_head.ServerHead.type_tells_the_size.Goals as goal

pub returns : goal.returns
returns c = record { size = λ head bytes s. (server-spelled head bytes s).1; whole = server-sizes }
